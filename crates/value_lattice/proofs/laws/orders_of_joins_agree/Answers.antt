use Rattle.value_lattice.proofs.OrderLemmas.{joins_agree}
use Rattle.value_lattice.proofs.laws.orders_of_joins_agree.Goals as goal

pub returns : goal.returns
returns c = joins_agree
