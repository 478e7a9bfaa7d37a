use Rattle.cell_places.proofs.LevelLemmas.{places_are_altitudes}
use Rattle.cell_places.proofs.laws.places_are_altitudes.Goals as goal

pub returns : goal.returns
returns c = places_are_altitudes
