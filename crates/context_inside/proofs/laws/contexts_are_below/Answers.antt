use Rattle.context_inside.proofs.Below.{contexts_are_below}
use Rattle.context_inside.proofs.laws.contexts_are_below.Goals as goal

pub returns : goal.returns
returns c = contexts_are_below
