use Rattle.sparc_runs.proofs.StepLaws.{steps_load}
use Rattle.sparc_runs.proofs.step_laws.steps_load.Goals as goal

pub returns : goal.returns
returns c = steps_load
