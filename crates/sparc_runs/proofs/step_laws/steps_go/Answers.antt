use Rattle.sparc_runs.proofs.Goings.{steps_go}
use Rattle.sparc_runs.proofs.step_laws.steps_go.Goals as goal

pub returns : goal.returns
returns c = steps_go
