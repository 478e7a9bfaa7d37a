use Rattle.std.proofs.Common.{◌≡◌, ◌++◌, length, take, drop}
use Rattle.abs_state.specs.State.{forgotten, forgotten_from}
use Rattle.abs_state.proofs.cells.forget_cells.Given as goal

abbrev pub invariant-loop-c : goal.invariant-loop-c
invariant-loop-c l = (length l.cells.items ≡ 48)
    × (take l.c l.cells.items ++ forgotten_from l.mask l.c (drop l.c l.cells.items) ≡ forgotten l.mask l.initial.cells.items)
