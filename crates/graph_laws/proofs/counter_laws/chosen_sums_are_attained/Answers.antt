use Rattle.graph_laws.proofs.Sums.{chosen_sums}
use Rattle.graph_laws.proofs.counter_laws.chosen_sums_are_attained.Goals as goal

pub returns : goal.returns
returns c = chosen_sums
