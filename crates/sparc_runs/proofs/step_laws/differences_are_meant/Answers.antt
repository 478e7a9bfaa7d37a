use Rattle.sparc_runs.proofs.Meanings.{differences}
use Rattle.sparc_runs.proofs.step_laws.differences_are_meant.Goals as goal

pub returns : goal.returns
returns c = differences
