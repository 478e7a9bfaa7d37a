use Rattle.value_lattice.proofs.FunctionLemmas.{least_is_no_ret, join_is_ret}
use Rattle.value_lattice.proofs.laws.functions_make_no_return_address.Goals as goal

pub returns : goal.returns
returns c = record { least = least_is_no_ret; join = join_is_ret }
