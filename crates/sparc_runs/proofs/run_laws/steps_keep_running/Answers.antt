use Rattle.sparc_runs.proofs.RunLaws.{keep_running}
use Rattle.sparc_runs.proofs.run_laws.steps_keep_running.Goals as goal

pub returns : goal.returns
returns c = keep_running
