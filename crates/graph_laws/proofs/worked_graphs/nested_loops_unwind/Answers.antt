use Rattle.graph_laws.proofs.WorkedNests.{nested_unwind}
use Rattle.graph_laws.proofs.worked_graphs.nested_loops_unwind.Goals as goal

pub returns : goal.returns
returns c = nested_unwind
