use Rattle.graph_instances.proofs.WorkedWalks.{last_forward}
use Rattle.graph_instances.proofs.worked_walks.last_node_is_reached_forward.Goals as goal

pub returns : goal.returns
returns c = last_forward
