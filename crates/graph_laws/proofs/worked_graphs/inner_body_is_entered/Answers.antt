use Rattle.graph_laws.proofs.WorkedNests.{inner_entered}
use Rattle.graph_laws.proofs.worked_graphs.inner_body_is_entered.Goals as goal

pub returns : goal.returns
returns c = inner_entered
