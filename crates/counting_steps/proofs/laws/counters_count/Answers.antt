use Rattle.counting_steps.proofs.Counting.{counters_count}
use Rattle.counting_steps.proofs.laws.counters_count.Goals as goal

pub returns : goal.returns
returns c = counters_count
