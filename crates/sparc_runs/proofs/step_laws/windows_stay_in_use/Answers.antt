use Rattle.sparc_runs.proofs.StepLaws.{stay_in_use}
use Rattle.sparc_runs.proofs.step_laws.windows_stay_in_use.Goals as goal

pub returns : goal.returns
returns c = stay_in_use
