use Rattle.std.proofs.Common.{◌≡◌, ◌∙◌, arith, add-one}
use Rattle.call_effects.specs.Mask.{has_cell}
use Rattle.abs_state.proofs.CellsLemmas.{any_step, any_length}
use Rattle.abs_state.proofs.cells.forget_cells.Goals as goal

pub loop-c-preserved : goal.loop-c-preserved
loop-c-preserved c =
    rw (c.forget_cell.ensures, add-one) (
      any_length (has_cell c.args.mask c.loop-c.c) c.loop-c.cells.items c.loop-c.c ∙ c.loop-c.invariant.0,
      any_step c.args.mask c.loop-c.c c.loop-c.cells.items (let size = c.loop-c.invariant.0 in omega arith) ∙ c.loop-c.invariant.1,
    )
