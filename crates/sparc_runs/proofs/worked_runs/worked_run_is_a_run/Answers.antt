use Rattle.sparc_runs.proofs.WorkedRuns.{worked_run}
use Rattle.sparc_runs.proofs.worked_runs.worked_run_is_a_run.Goals as goal

pub returns : goal.returns
returns c = worked_run
