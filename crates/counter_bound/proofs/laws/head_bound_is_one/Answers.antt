use Rattle.counter_bound.proofs.Counters.{one_bound}
use Rattle.counter_bound.proofs.laws.head_bound_is_one.Goals as goal

pub returns : goal.returns
returns c = one_bound
