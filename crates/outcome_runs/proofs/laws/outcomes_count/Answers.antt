use Rattle.outcome_runs.proofs.Counting.{outcomes_count}
use Rattle.outcome_runs.proofs.laws.outcomes_count.Goals as goal

pub returns : goal.returns
returns c = outcomes_count
