use Rattle.bound_task.proofs.OneGraph.{graph_text_is_one_of}
use Rattle.bound_task.proofs.laws.graph_text_is_one_of.Goals as goal

pub returns : goal.returns
returns c = graph_text_is_one_of
