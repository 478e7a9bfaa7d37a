use Rattle.value_lattice.proofs.LeastLemmas.{least_exists}
use Rattle.value_lattice.proofs.laws.least_values_exist.Goals as goal

pub returns : goal.returns
returns c = least_exists
