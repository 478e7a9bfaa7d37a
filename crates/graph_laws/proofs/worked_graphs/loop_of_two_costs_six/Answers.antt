use Rattle.graph_laws.proofs.WorkedCosts.{two_cost}
use Rattle.graph_laws.proofs.worked_graphs.loop_of_two_costs_six.Goals as goal

pub returns : goal.returns
returns c = two_cost
