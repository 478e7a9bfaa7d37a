use Rattle.context_bounds.proofs.Fixed.{called_are_enough}
use Rattle.context_bounds.proofs.laws.called_are_enough.Goals as goal

pub returns : goal.returns
returns c = called_are_enough
