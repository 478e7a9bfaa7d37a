use Rattle.sparc_runs.proofs.StepLaws.{writes_only}
use Rattle.sparc_runs.proofs.step_laws.steps_write_only.Goals as goal

pub returns : goal.returns
returns c = writes_only
