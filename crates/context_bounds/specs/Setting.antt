-- What contexts are judged by, as code has it.
use Rattle.std.specs.Prelude.{ℕ, List}
use Rattle.context_outcomes.specs.Setting.{Setting}
use Rattle.transfer_fns.specs.declared.system.SparcSystem.{SparcSystem}
use Rattle.transfer_rules.specs.Fact.{Piece}

-- a system, the costs of a table of cycles, and the facts of all runs
abbrev pub setting_of : SparcSystem → List ℕ → List Piece → Setting
setting_of system costs pieces = record {
  image = system.image;
  binding = system.binding;
  costs = costs;
  eight = system.eight;
  thresholds = system.thresholds;
  pieces = pieces;
}
