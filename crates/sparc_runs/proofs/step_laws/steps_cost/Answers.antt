use Rattle.sparc_runs.proofs.StepLaws.{steps_cost}
use Rattle.sparc_runs.proofs.step_laws.steps_cost.Goals as goal

pub returns : goal.returns
returns c = steps_cost
