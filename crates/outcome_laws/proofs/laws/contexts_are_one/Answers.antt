use Rattle.outcome_laws.proofs.Bounds.{contexts_are_one}
use Rattle.outcome_laws.proofs.laws.contexts_are_one.Goals as goal

pub returns : goal.returns
returns c = contexts_are_one
