use Rattle.graph_laws.proofs.Forward.{heads_turn}
use Rattle.graph_laws.proofs.forward_laws.heads_have_turns.Goals as goal

pub returns : goal.returns
returns c = heads_turn
