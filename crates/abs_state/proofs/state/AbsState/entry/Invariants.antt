use Rattle.std.proofs.Common.{◌≡◌, map}
use Rattle.std.specs.List.{range_with_len}
use Rattle.abs_state.specs.State.{entry_cell}
use Rattle.abs_state.proofs.state.AbsState.entry.Given as goal

abbrev pub invariant-loop-c : goal.invariant-loop-c
invariant-loop-c l = l.cells.items ≡ map entry_cell (range_with_len 0 l.c)
