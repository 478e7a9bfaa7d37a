use Rattle.value_lattice.proofs.FunctionLemmas.{functions_are_least}
use Rattle.value_lattice.proofs.laws.functions_are_least.Goals as goal

pub returns : goal.returns
returns c = functions_are_least
