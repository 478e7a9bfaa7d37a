use Rattle.cell_places.proofs.PlaceLemmas.{cells_are_apart}
use Rattle.cell_places.proofs.laws.cells_are_apart.Goals as goal

pub returns : goal.returns
returns c = cells_are_apart
