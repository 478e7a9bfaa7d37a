use Rattle.context_inside.proofs.Below.{joins_are_below}
use Rattle.context_inside.proofs.laws.joins_are_below.Goals as goal

pub returns : goal.returns
returns c = joins_are_below
