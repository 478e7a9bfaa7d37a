use Rattle.graph_laws.proofs.WorkedNests.{inner_is_a_part}
use Rattle.graph_laws.proofs.worked_graphs.inner_loop_is_a_part.Goals as goal

pub returns : goal.returns
returns c = inner_is_a_part
