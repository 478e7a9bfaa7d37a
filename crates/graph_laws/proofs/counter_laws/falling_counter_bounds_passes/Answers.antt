use Rattle.graph_laws.proofs.Counters.{falling_passes}
use Rattle.graph_laws.proofs.counter_laws.falling_counter_bounds_passes.Goals as goal

pub returns : goal.returns
returns c = falling_passes
