use Rattle.graph_laws.proofs.WorkedSums.{nested_rise}
use Rattle.graph_laws.proofs.worked_graphs.nested_sums_rise.Goals as goal

pub returns : goal.returns
returns c = nested_rise
