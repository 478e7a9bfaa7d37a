use Rattle.graph_instances.proofs.WorkedWalks.{last_end}
use Rattle.graph_instances.proofs.worked_walks.last_node_is_an_end.Goals as goal

pub returns : goal.returns
returns c = last_end
