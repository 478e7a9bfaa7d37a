use Rattle.step_covers.proofs.WorkedLemmas.{worked_run}
use Rattle.step_covers.proofs.worked_run.worked_run_is_covered.Goals as goal

pub returns : goal.returns
returns c = worked_run
