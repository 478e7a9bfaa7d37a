use Rattle.graph_laws.proofs.WorkedCosts.{meets_its_bound}
use Rattle.graph_laws.proofs.worked_graphs.counter_meets_its_bound.Goals as goal

pub returns : goal.returns
returns c = meets_its_bound
