use Rattle.outcome_runs.proofs.Telling.{outcomes_are_told}
use Rattle.outcome_runs.proofs.laws.outcomes_are_told.Goals as goal

pub returns : goal.returns
returns c = outcomes_are_told
