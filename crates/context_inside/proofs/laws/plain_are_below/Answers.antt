use Rattle.context_inside.proofs.Below.{plain_are_below}
use Rattle.context_inside.proofs.laws.plain_are_below.Goals as goal

pub returns : goal.returns
returns c = plain_are_below
