use Rattle.graph_instances.proofs.WorkedWalks.{through_three}
use Rattle.graph_instances.proofs.worked_walks.through_all_three.Goals as goal

pub returns : goal.returns
returns c = through_three
