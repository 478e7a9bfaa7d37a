use Rattle.outcome_laws.proofs.Outcomes.{outcomes_of_contexts_are_one}
use Rattle.outcome_laws.proofs.laws.outcomes_of_contexts_are_one.Goals as goal

pub returns : goal.returns
returns c = outcomes_of_contexts_are_one
