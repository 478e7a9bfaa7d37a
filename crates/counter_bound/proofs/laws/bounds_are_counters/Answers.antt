use Rattle.counter_bound.proofs.Counters.{bound_counts}
use Rattle.counter_bound.proofs.laws.bounds_are_counters.Goals as goal

pub returns : goal.returns
returns c = bound_counts
