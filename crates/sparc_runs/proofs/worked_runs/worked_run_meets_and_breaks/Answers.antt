use Rattle.sparc_runs.proofs.WorkedRuns.{meet_and_break}
use Rattle.sparc_runs.proofs.worked_runs.worked_run_meets_and_breaks.Goals as goal

pub returns : goal.returns
returns c = meet_and_break
