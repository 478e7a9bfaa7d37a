use Rattle.sparc_runs.proofs.RunLaws.{runs_running}
use Rattle.sparc_runs.proofs.run_laws.runs_are_running.Goals as goal

pub returns : goal.returns
returns c = runs_running
