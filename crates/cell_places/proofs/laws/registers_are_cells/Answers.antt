use Rattle.cell_places.proofs.PlaceLemmas.{registers_are_cells}
use Rattle.cell_places.proofs.laws.registers_are_cells.Goals as goal

pub returns : goal.returns
returns c = registers_are_cells
