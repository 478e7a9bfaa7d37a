use Rattle.graph_laws.proofs.Counters.{rising_sums}
use Rattle.graph_laws.proofs.counter_laws.rising_sums_bound_turns.Goals as goal

pub returns : goal.returns
returns c = rising_sums
