use Rattle.graph_laws.proofs.WorkedNests.{nested_loops}
use Rattle.graph_laws.proofs.worked_graphs.nested_loops_are_loops.Goals as goal

pub returns : goal.returns
returns c = nested_loops
