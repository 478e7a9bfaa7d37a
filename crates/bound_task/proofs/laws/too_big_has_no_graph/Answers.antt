use Rattle.bound_task.proofs.OneGraph.{too_big_has_no_graph}
use Rattle.bound_task.proofs.laws.too_big_has_no_graph.Goals as goal

pub returns : goal.returns
returns c = too_big_has_no_graph
