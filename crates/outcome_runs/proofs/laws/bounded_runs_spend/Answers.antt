use Rattle.outcome_runs.proofs.Spending.{bounded_runs_spend}
use Rattle.outcome_runs.proofs.laws.bounded_runs_spend.Goals as goal

pub returns : goal.returns
returns c = bounded_runs_spend
