use Rattle.graph_laws.proofs.Counters.{rising_passes}
use Rattle.graph_laws.proofs.counter_laws.counter_bounds_passes.Goals as goal

pub returns : goal.returns
returns c = rising_passes
