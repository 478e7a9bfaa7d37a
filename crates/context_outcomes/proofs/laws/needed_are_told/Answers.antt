use Rattle.context_outcomes.proofs.Told.{needed_are_told}
use Rattle.context_outcomes.proofs.laws.needed_are_told.Goals as goal

pub returns : goal.returns
returns c = needed_are_told
