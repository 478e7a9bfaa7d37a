use Rattle.outcome_runs.proofs.Spending.{runs_spend_outcomes}
use Rattle.outcome_runs.proofs.laws.runs_spend_outcomes.Goals as goal

pub returns : goal.returns
returns c = runs_spend_outcomes
