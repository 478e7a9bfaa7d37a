use Rattle.context_inside.proofs.Below.{roots_are_below}
use Rattle.context_inside.proofs.laws.roots_are_below.Goals as goal

pub returns : goal.returns
returns c = roots_are_below
