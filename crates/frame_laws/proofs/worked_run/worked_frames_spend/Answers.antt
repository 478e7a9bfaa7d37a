use Rattle.frame_laws.proofs.WorkedRun.{worked_spend}
use Rattle.frame_laws.proofs.worked_run.worked_frames_spend.Goals as goal

pub returns : goal.returns
returns c = worked_spend
