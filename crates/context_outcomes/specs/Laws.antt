-- What outcomes say.
use Rattle.std.specs.Prelude.{◌≡◌, ◌↔◌, ◌≤◌, ℕ, true, [], length, Some, is_some}
use Rattle.wcet_report.specs.declared.context.Context.TheVariants.{Plain}
use Rattle.wcet_report.specs.declared.outcome.Outcome.{Outcome}
use Rattle.wcet_report.specs.declared.outcome.Outcomes.{Outcomes}
use Rattle.context_outcomes.specs.Outcomes.{AreOutcomes, HasBound, HasPlainBound, IsOutcome}
use Rattle.context_outcomes.specs.Refusals.{AreMatched, AreNeeded, IsFirstUnmatched}
use Rattle.context_outcomes.specs.Setting.{Setting}

-- a context has a bound exactly where its list of reasons is empty
abbrev pub BoundedHaveNoReasons : Type 0
BoundedHaveNoReasons = (S : Setting) (outcome : Outcome) → IsOutcome S outcome → (is_some outcome.bound ≡ true) ↔ (outcome.reasons ≡ [])

-- a plain subprogram's plain context has its bound
abbrev pub PlainHaveBounds : Type 0
PlainHaveBounds = (S : Setting) (sub bound : ℕ) → HasPlainBound S sub bound → HasBound S sub Plain (Some bound)

-- where a line of an asserted loop isn't matched, not all are
abbrev pub UnmatchedAreNotMatched : Type 0
UnmatchedAreNotMatched = (S : Setting) (line : ℕ) → IsFirstUnmatched S line → AreMatched S → ⊥

-- so many different needed contexts have as many outcomes
abbrev pub NeededAreTold : Type 0
NeededAreTold = (S : Setting) (outcomes : Outcomes) (many : ℕ) → AreOutcomes S outcomes → AreNeeded S many → many ≤ length outcomes.list
