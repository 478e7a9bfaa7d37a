use Rattle.outcome_runs.proofs.Asserting.{outcomes_are_asserted}
use Rattle.outcome_runs.proofs.laws.outcomes_are_asserted.Goals as goal

pub returns : goal.returns
returns c = outcomes_are_asserted
