use Rattle.sparc_runs.proofs.Levels.{below_seven}
use Rattle.sparc_runs.proofs.step_laws.levels_are_below_seven.Goals as goal

pub returns : goal.returns
returns c = below_seven
