use Rattle.value_lattice.proofs.HeightLemmas.{chain_is_short}
use Rattle.value_lattice.proofs.laws.chains_are_short.Goals as goal

pub returns : goal.returns
returns c = chain_is_short
