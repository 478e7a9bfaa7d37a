use Rattle.graph_laws.proofs.Inner.{inner_loops}
use Rattle.graph_laws.proofs.label_laws.loops_inside_are_loops.Goals as goal

pub returns : goal.returns
returns c = inner_loops
