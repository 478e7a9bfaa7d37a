use Rattle.sparc_runs.proofs.StepLaws.{levels_move}
use Rattle.sparc_runs.proofs.step_laws.levels_move.Goals as goal

pub returns : goal.returns
returns c = levels_move
