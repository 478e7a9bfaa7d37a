use Rattle.graph_instances.proofs.WorkedWalks.{beginnings_less}
use Rattle.graph_instances.proofs.worked_walks.beginnings_spend_less.Goals as goal

pub returns : goal.returns
returns c = beginnings_less
