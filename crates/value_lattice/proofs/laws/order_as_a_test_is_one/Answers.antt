use Rattle.value_lattice.proofs.TestLemmas.{the_order_is_one}
use Rattle.value_lattice.proofs.laws.order_as_a_test_is_one.Goals as goal

pub returns : goal.returns
returns c = the_order_is_one
