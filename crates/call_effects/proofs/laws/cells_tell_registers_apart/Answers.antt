use Rattle.call_effects.proofs.CellLemmas.{cells_tell_registers_apart}
use Rattle.call_effects.proofs.laws.cells_tell_registers_apart.Goals as goal

pub returns : goal.returns
returns c = cells_tell_registers_apart
