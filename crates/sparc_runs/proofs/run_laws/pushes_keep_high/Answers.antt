use Rattle.sparc_runs.proofs.HighStacks.{pushes_high}
use Rattle.sparc_runs.proofs.run_laws.pushes_keep_high.Goals as goal

pub returns : goal.returns
returns c = pushes_high
