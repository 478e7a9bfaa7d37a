use Rattle.bound_task.proofs.OneGraph.{graph_is_one}
use Rattle.bound_task.proofs.laws.graph_is_one.Goals as goal

pub returns : goal.returns
returns c = graph_is_one
