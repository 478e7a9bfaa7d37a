use Rattle.graph_laws.proofs.WorkedSums.{falling_meets}
use Rattle.graph_laws.proofs.worked_graphs.falling_counter_meets_its_bound.Goals as goal

pub returns : goal.returns
returns c = falling_meets
