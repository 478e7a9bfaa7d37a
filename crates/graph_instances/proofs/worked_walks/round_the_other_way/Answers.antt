use Rattle.graph_instances.proofs.WorkedWalks.{other_way}
use Rattle.graph_instances.proofs.worked_walks.round_the_other_way.Goals as goal

pub returns : goal.returns
returns c = other_way
