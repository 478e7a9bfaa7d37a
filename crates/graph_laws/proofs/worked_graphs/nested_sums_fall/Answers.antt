use Rattle.graph_laws.proofs.WorkedSums.{nested_fall}
use Rattle.graph_laws.proofs.worked_graphs.nested_sums_fall.Goals as goal

pub returns : goal.returns
returns c = nested_fall
