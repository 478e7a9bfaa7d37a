use Rattle.outcome_laws.proofs.Outcomes.{outcomes_are_one}
use Rattle.outcome_laws.proofs.laws.outcomes_are_one.Goals as goal

pub returns : goal.returns
returns c = outcomes_are_one
