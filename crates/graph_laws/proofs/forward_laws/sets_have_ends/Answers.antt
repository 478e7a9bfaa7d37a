use Rattle.graph_laws.proofs.Forward.{sets_end}
use Rattle.graph_laws.proofs.forward_laws.sets_have_ends.Goals as goal

pub returns : goal.returns
returns c = sets_end
