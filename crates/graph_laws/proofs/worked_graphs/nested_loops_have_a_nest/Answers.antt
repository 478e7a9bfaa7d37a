use Rattle.graph_laws.proofs.WorkedNests.{nested_is}
use Rattle.graph_laws.proofs.worked_graphs.nested_loops_have_a_nest.Goals as goal

pub returns : goal.returns
returns c = nested_is
