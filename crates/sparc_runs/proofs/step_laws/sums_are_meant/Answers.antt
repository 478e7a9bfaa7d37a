use Rattle.sparc_runs.proofs.Meanings.{sums}
use Rattle.sparc_runs.proofs.step_laws.sums_are_meant.Goals as goal

pub returns : goal.returns
returns c = sums
