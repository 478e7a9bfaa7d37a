use Rattle.graph_laws.proofs.WorkedNests.{nested_one_nest}
use Rattle.graph_laws.proofs.worked_graphs.nested_loops_have_one_nest.Goals as goal

pub returns : goal.returns
returns c = nested_one_nest
