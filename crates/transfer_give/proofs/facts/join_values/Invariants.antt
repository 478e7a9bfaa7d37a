use Rattle.std.proofs.Common.{◌≡◌, ◌++◌, drop}
use Rattle.abs_state.specs.State.{joined_cells}
use Rattle.transfer_give.proofs.facts.join_values.Given as goal

abbrev pub invariant-loop-i : goal.invariant-loop-i
invariant-loop-i l = l.values.items ++ joined_cells l.t (drop l.i l.a) (drop l.i l.b) ≡ joined_cells l.t l.a l.b
