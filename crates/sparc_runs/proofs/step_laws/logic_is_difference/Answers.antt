use Rattle.sparc_runs.proofs.Meanings.{logic}
use Rattle.sparc_runs.proofs.step_laws.logic_is_difference.Goals as goal

pub returns : goal.returns
returns c = logic
