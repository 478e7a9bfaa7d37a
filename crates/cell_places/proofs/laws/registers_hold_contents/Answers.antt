use Rattle.cell_places.proofs.PlaceLemmas.{registers_hold_contents}
use Rattle.cell_places.proofs.laws.registers_hold_contents.Goals as goal

pub returns : goal.returns
returns c = registers_hold_contents
