-- What outcomes say of runs.
use Rattle.std.specs.Prelude.{ℕ, List, All}
use Rattle.assert_bind.specs.Body.{SpeaksOfCodeIn}
use Rattle.assert_bind.specs.Index.{IsSound}
use Rattle.assert_bind.specs.declared.body.BoundAssertion.{BoundAssertion}
use Rattle.bt_image.specs.Checked.{IsAccepted}
use Rattle.closed_steps.specs.Graph.{IsBound}
use Rattle.context_outcomes.specs.Outcomes.{AreOutcomes}
use Rattle.context_outcomes.specs.Setting.{Setting}
use Rattle.outcome_runs.specs.Told.{IsKnown}
use Rattle.wcet_report.specs.declared.outcome.Outcomes.{Outcomes}
use Rattle.report_runs.specs.Runs.{HoldOfRuns}

-- the outcomes of a program hold of its runs
abbrev pub OutcomesHoldOfRuns : Type 0
OutcomesHoldOfRuns = (S : Setting) (outcomes : Outcomes) → IsKnown S → AreOutcomes S outcomes → HoldOfRuns S outcomes

-- assertions are bound to an accepted image whose code they speak of
abbrev pub CodeBinds : Type 0
CodeBinds = (image : List ℕ) (list : List BoundAssertion) → IsAccepted image → IsSound list → All (SpeaksOfCodeIn image) list → IsBound image list
