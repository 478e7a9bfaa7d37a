use Rattle.frame_laws.proofs.WorkedRun.{worked_root}
use Rattle.frame_laws.proofs.worked_run.worked_root_meets_its_bound.Goals as goal

pub returns : goal.returns
returns c = worked_root
