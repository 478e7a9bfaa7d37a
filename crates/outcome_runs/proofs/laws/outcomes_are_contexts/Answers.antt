use Rattle.outcome_runs.proofs.Contextual.{outcomes_are_contexts}
use Rattle.outcome_runs.proofs.laws.outcomes_are_contexts.Goals as goal

pub returns : goal.returns
returns c = outcomes_are_contexts
