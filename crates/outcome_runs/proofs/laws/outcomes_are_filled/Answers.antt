use Rattle.outcome_runs.proofs.Filling.{outcomes_are_filled}
use Rattle.outcome_runs.proofs.laws.outcomes_are_filled.Goals as goal

pub returns : goal.returns
returns c = outcomes_are_filled
