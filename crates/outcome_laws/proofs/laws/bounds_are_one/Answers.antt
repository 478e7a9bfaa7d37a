use Rattle.outcome_laws.proofs.Bounds.{bounds_are_one}
use Rattle.outcome_laws.proofs.laws.bounds_are_one.Goals as goal

pub returns : goal.returns
returns c = bounds_are_one
