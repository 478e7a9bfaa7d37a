use Rattle.counter_bound.proofs.Counters.{one_count}
use Rattle.counter_bound.proofs.laws.cells_count_by_one_step.Goals as goal

pub returns : goal.returns
returns c = one_count
