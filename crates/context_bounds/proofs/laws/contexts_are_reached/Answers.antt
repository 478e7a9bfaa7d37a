use Rattle.context_bounds.proofs.Reached.{contexts_are_reached}
use Rattle.context_bounds.proofs.laws.contexts_are_reached.Goals as goal

pub returns : goal.returns
returns c = contexts_are_reached
