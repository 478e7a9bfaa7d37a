use Rattle.outcome_laws.proofs.Needed.{needed_are_contexts}
use Rattle.outcome_laws.proofs.laws.needed_are_contexts.Goals as goal

pub returns : goal.returns
returns c = needed_are_contexts
