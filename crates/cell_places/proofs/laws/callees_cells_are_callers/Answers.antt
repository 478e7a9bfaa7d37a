use Rattle.cell_places.proofs.LevelLemmas.{callees_cells_are_callers}
use Rattle.cell_places.proofs.laws.callees_cells_are_callers.Goals as goal

pub returns : goal.returns
returns c = callees_cells_are_callers
