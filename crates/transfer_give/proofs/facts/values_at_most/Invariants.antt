use Rattle.std.proofs.Common.{◌≡◌, drop}
use Rattle.value_lattice.specs.Height.{are_at_most}
use Rattle.transfer_give.proofs.facts.values_at_most.Given as goal

abbrev pub invariant-loop-i : goal.invariant-loop-i
invariant-loop-i l = are_at_most (drop l.i l.a) (drop l.i l.b) ≡ are_at_most l.a l.b
