use Rattle.value_lattice.proofs.HeightLemmas.{rise, bound}
use Rattle.value_lattice.proofs.laws.heights_rise.Goals as goal

pub returns : goal.returns
returns c = record { rise = rise; bound = bound }
