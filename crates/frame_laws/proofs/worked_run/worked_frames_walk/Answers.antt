use Rattle.frame_laws.proofs.WorkedRun.{worked_walk}
use Rattle.frame_laws.proofs.worked_run.worked_frames_walk.Goals as goal

pub returns : goal.returns
returns c = worked_walk
