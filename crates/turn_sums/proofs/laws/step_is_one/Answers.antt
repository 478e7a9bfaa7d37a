use Rattle.turn_sums.proofs.Steps.{one_step}
use Rattle.turn_sums.proofs.laws.step_is_one.Goals as goal

pub returns : goal.returns
returns c = one_step
