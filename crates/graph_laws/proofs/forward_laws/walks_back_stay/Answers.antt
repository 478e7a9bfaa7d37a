use Rattle.graph_laws.proofs.Forward.{walks_stay}
use Rattle.graph_laws.proofs.forward_laws.walks_back_stay.Goals as goal

pub returns : goal.returns
returns c = walks_stay
