use Rattle.graph_laws.proofs.WorkedCosts.{collapsed_cost}
use Rattle.graph_laws.proofs.worked_graphs.collapsed_walk_costs_fourteen.Goals as goal

pub returns : goal.returns
returns c = collapsed_cost
