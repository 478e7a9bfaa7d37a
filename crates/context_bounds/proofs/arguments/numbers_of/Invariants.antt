use Rattle.std.proofs.Common.{◌≡◌, ◌++◌, drop}
use Rattle.std.specs.List.{flat_map}
use Rattle.context_outcomes.specs.Arguments.{numbers_in}
use Rattle.context_bounds.proofs.arguments.numbers_of.Given as goal

abbrev pub invariant-loop-value : goal.invariant-loop-value
invariant-loop-value l = l.list.items ++ flat_map numbers_in (drop l.value-index l.args) ≡ flat_map numbers_in l.args
