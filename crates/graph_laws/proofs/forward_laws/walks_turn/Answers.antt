use Rattle.graph_laws.proofs.Forward.{walks_turned}
use Rattle.graph_laws.proofs.forward_laws.walks_turn.Goals as goal

pub returns : goal.returns
returns c = walks_turned
