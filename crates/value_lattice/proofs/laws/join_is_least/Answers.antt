use Rattle.value_lattice.proofs.FunctionLemmas.{join_over, join_left, join_right, join_least}
use Rattle.value_lattice.proofs.laws.join_is_least.Goals as goal

pub returns : goal.returns
returns c = record { over = join_over; left = join_left; right = join_right; least = join_least }
