use Rattle.turn_sums.proofs.Steps.{step_bounds}
use Rattle.turn_sums.proofs.laws.step_bounds_passes.Goals as goal

pub returns : goal.returns
returns c = step_bounds
