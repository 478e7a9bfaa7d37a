use Rattle.graph_laws.proofs.Forward.{equal_loops}
use Rattle.graph_laws.proofs.forward_laws.equal_loops_are_loops.Goals as goal

pub returns : goal.returns
returns c = equal_loops
