-- What is analysed.
use Rattle.std.specs.Prelude.{◌≡◌, ℕ, List}
use Rattle.abs_state.specs.declared.key.Key.{Key}
use Rattle.assert_bind.specs.declared.body.BoundAssertion.{BoundAssertion}
use Rattle.bound_task.specs.declared.problem.Problem.{Problem}
use Rattle.closed_steps.specs.Graph.{IsBound}
use Rattle.code_thresholds.specs.Number.{AreThresholdsOf}
use Rattle.cycle_table.specs.Class.{has_eight}
use Rattle.flow_system.specs.Rules.{Rules}
use Rattle.transfer_fns.specs.Setting.{rules_over}
use Rattle.transfer_rules.specs.declared.fact.Fact.{Fact}
use Rattle.value_lattice.specs.Thresholds.{IsThresholds}

-- the rules of a problem
abbrev pub rules_in : Problem → Rules Key Fact
rules_in p = rules_over p.system.thresholds p.system.image p.system.binding p.system.eight

-- the problem of an image, of the costs of a table of cycles and of assertions that are bound to the image
pub record IsProblemOf (image costs : List ℕ) (those : List BoundAssertion) (p : Problem) : Type 0 where
  pub image_is : p.system.image ≡ image
  pub those_are : p.system.binding ≡ those
  pub costs_are : p.cycles ≡ costs
  pub eight_is : p.system.eight ≡ has_eight costs
  pub thresholds : AreThresholdsOf image those p.system.thresholds
  pub lawful : IsThresholds p.system.thresholds
  pub bound : IsBound image those
