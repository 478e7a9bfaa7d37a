use Rattle.sparc_runs.proofs.WorkedRuns.{worked_frames}
use Rattle.sparc_runs.proofs.worked_runs.worked_run_has_frames.Goals as goal

pub returns : goal.returns
returns c = worked_frames
