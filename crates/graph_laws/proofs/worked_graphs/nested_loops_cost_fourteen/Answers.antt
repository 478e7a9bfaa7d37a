use Rattle.graph_laws.proofs.WorkedCosts.{nested_cost}
use Rattle.graph_laws.proofs.worked_graphs.nested_loops_cost_fourteen.Goals as goal

pub returns : goal.returns
returns c = nested_cost
