use Rattle.graph_instances.proofs.WorkedWalks.{inner_stay}
use Rattle.graph_instances.proofs.worked_walks.inner_walks_stay.Goals as goal

pub returns : goal.returns
returns c = inner_stay
