use Rattle.sparc_runs.proofs.Meanings.{divides}
use Rattle.sparc_runs.proofs.step_laws.shifts_divide.Goals as goal

pub returns : goal.returns
returns c = divides
