use Rattle.std.proofs.Common.{◌≡◌, take}
use Rattle.abs_state.proofs.state.AbsState.copy.Given as goal

abbrev pub invariant-loop-value : goal.invariant-loop-value
invariant-loop-value l = l.cells.items ≡ take l.value-index l.value-items
