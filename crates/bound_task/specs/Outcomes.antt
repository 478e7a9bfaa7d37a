-- The outcomes of an image, of the costs of a table of cycles and of assertions: what the contexts come to that its due graph
-- shows to be needed; and why there may be none.
use Rattle.std.specs.Prelude.{◌≡◌, ℕ, suc, ◌≤◌, List, length}
use Rattle.abs_state.specs.declared.key.Key.{Key}
use Rattle.assert_bind.specs.declared.body.BoundAssertion.{BoundAssertion}
use Rattle.context_outcomes.specs.Outcomes.{AreOutcomes}
use Rattle.context_outcomes.specs.Refusals.{AreMatched, AreNeeded, IsFirstUnmatched, most_contexts}
use Rattle.context_outcomes.specs.Setting.{Setting}
use Rattle.cycle_table.specs.Class.{has_eight}
use Rattle.report_runs.specs.Runs.{HoldOfRuns}
use Rattle.transfer_rules.specs.declared.fact.Fact.{Fact}
use Rattle.wcet_report.specs.declared.outcome.Outcomes.{Outcomes}
use Rattle.bound_task.specs.Graph.{IsGraphOf}

-- a program with its thresholds and facts
abbrev pub setting_with : List ℕ → List ℕ → List ℕ → List BoundAssertion → List (Key × Fact) → Setting
setting_with t image costs those facts = record {
  image = image;
  binding = those;
  costs = costs;
  eight = has_eight costs;
  thresholds = t;
  pieces = facts;
}

-- what contexts are judged by: a program with its due graph
abbrev pub setting_by : {image costs : List ℕ} {those : List BoundAssertion} {facts : List (Key × Fact)} → IsGraphOf image costs those facts → Setting
setting_by {image} {costs} {those} {facts} graph = setting_with graph.thresholds image costs those facts

-- Each asserted loop is matched by a loop of the due graph, and these are the outcomes of the contexts that are needed, which are
-- no more than the limit.
pub record AreOutcomesOf (image costs : List ℕ) (those : List BoundAssertion) (outcomes : Outcomes) : Type 0 where
  pub facts : List (Key × Fact)
  pub graph : IsGraphOf image costs those facts
  pub matched : AreMatched (setting_by graph)
  pub are : AreOutcomes (setting_by graph) outcomes
  pub few : length outcomes.list ≤ most_contexts

-- The due graph is followed by the runs of the program that meet the assertions, up to their first gap, and what the outcomes say
-- of loops and cycles holds of them.
pub record HoldOfRunsOf (image costs : List ℕ) (those : List BoundAssertion) (outcomes : Outcomes) : Type 0 where
  pub facts : List (Key × Fact)
  pub graph : IsGraphOf image costs those facts
  pub hold : HoldOfRuns (setting_by graph) outcomes

-- The line is the least of those of asserted loops that no loop of the due graph matches.
pub record IsFirstUnmatchedOf (image costs : List ℕ) (those : List BoundAssertion) (line : ℕ) : Type 0 where
  pub facts : List (Key × Fact)
  pub graph : IsGraphOf image costs those facts
  pub first : IsFirstUnmatched (setting_by graph) line

-- Each asserted loop is matched, and more contexts are needed than the limit; the count is one more than that limit.
pub record AreTooManyFor (image costs : List ℕ) (those : List BoundAssertion) (count : ℕ) : Type 0 where
  pub facts : List (Key × Fact)
  pub graph : IsGraphOf image costs those facts
  pub matched : AreMatched (setting_by graph)
  pub count_is : count ≡ suc most_contexts
  pub needed : AreNeeded (setting_by graph) count
