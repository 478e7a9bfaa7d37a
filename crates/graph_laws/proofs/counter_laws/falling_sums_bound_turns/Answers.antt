use Rattle.graph_laws.proofs.Counters.{falling_sums}
use Rattle.graph_laws.proofs.counter_laws.falling_sums_bound_turns.Goals as goal

pub returns : goal.returns
returns c = falling_sums
