use Rattle.frame_laws.proofs.WorkedRun.{worked_is_followed}
use Rattle.frame_laws.proofs.worked_run.worked_run_is_followed.Goals as goal

pub returns : goal.returns
returns c = worked_is_followed
