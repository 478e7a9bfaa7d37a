use Rattle.cell_places.proofs.LevelLemmas.{cells_are_between}
use Rattle.cell_places.proofs.laws.cells_are_between.Goals as goal

pub returns : goal.returns
returns c = cells_are_between
