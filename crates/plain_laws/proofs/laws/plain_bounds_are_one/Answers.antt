use Rattle.plain_laws.proofs.OneBound.{plain_bounds_are_one}
use Rattle.plain_laws.proofs.laws.plain_bounds_are_one.Goals as goal

pub returns : goal.returns
returns c = plain_bounds_are_one
