use Rattle.sparc_runs.proofs.StepLaws.{keeps_machines}
use Rattle.sparc_runs.proofs.step_laws.steps_keep_machines.Goals as goal

pub returns : goal.returns
returns c = keeps_machines
