use Rattle.graph_laws.proofs.WorkedCosts.{inner_cost}
use Rattle.graph_laws.proofs.worked_graphs.inner_loop_costs_six.Goals as goal

pub returns : goal.returns
returns c = inner_cost
