use Rattle.graph_instances.proofs.WorkedWalks.{other_loops_are}
use Rattle.graph_instances.proofs.worked_walks.other_loops_are_loops.Goals as goal

pub returns : goal.returns
returns c = other_loops_are
