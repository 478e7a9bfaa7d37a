use Rattle.std.proofs.Common.{◌≡◌, ◌++◌, map, take}
use Rattle.value_lattice.specs.Order.{rank_of}
use Rattle.value_lattice.proofs.thresholds.extend.Given as goal

abbrev pub invariant-loop-number : goal.invariant-loop-number
invariant-loop-number l = l.places.items ≡ l.initial.places.items ++ map rank_of (take l.number-index l.numbers)
