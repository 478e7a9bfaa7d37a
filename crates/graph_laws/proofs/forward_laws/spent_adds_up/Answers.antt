use Rattle.graph_laws.proofs.Forward.{spent_sums}
use Rattle.graph_laws.proofs.forward_laws.spent_adds_up.Goals as goal

pub returns : goal.returns
returns c = spent_sums
