use Rattle.frame_laws.proofs.WorkedRun.{worked_callee}
use Rattle.frame_laws.proofs.worked_run.worked_callee_meets_its_bound.Goals as goal

pub returns : goal.returns
returns c = worked_callee
