-- The due graph of an image, of the costs of a table of cycles and of assertions.
use Rattle.std.specs.Prelude.{ℕ, ◌≤◌, List}
use Rattle.abs_state.specs.Key.{compare}
use Rattle.abs_state.specs.declared.key.Key.{Key}
use Rattle.assert_bind.specs.declared.body.BoundAssertion.{BoundAssertion}
use Rattle.code_thresholds.specs.Number.{AreThresholdsOf}
use Rattle.cycle_table.specs.Class.{has_eight}
use Rattle.flow_core.specs.Core.{IsOver, counted_keys}
use Rattle.flow_system.specs.Facts.{fact_at, KeysRise}
use Rattle.flow_system.specs.Rules.{Rules}
use Rattle.flow_system.specs.State.{IsDueGraph}
use Rattle.transfer_fns.specs.Setting.{rules_over}
use Rattle.transfer_rules.specs.declared.fact.Fact.{Fact}
use Rattle.value_lattice.specs.Thresholds.{IsThresholds}

-- how many program points a graph may have
abbrev pub most_nodes : ℕ
most_nodes = 131072

-- the rules of an image, of costs and of assertions, over thresholds
abbrev pub rules_with : List ℕ → List ℕ → List ℕ → List BoundAssertion → Rules Key Fact
rules_with t image costs those = rules_over t image those (has_eight costs)

-- the facts are the due graph over the thresholds of the program, and its program points are no more than the limit
pub record IsGraphOf (image costs : List ℕ) (those : List BoundAssertion) (facts : List (Key × Fact)) : Type 0 where
  pub thresholds : List ℕ
  pub are_thresholds : AreThresholdsOf image those thresholds
  pub lawful : IsThresholds thresholds
  pub rise : KeysRise compare facts
  pub due : IsDueGraph (rules_with thresholds image costs those) (fact_at compare facts)
  pub within : counted_keys (rules_with thresholds image costs those) facts ≤ most_nodes

-- each closed state over the thresholds of the program has more program points than the limit
pub record IsTooBigFor (image costs : List ℕ) (those : List BoundAssertion) : Type 0 where
  pub thresholds : List ℕ
  pub are_thresholds : AreThresholdsOf image those thresholds
  pub over : IsOver compare (rules_with thresholds image costs those) most_nodes
