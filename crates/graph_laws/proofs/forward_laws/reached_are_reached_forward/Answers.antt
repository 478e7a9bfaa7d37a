use Rattle.graph_laws.proofs.Forward.{reached_forward}
use Rattle.graph_laws.proofs.forward_laws.reached_are_reached_forward.Goals as goal

pub returns : goal.returns
returns c = reached_forward
