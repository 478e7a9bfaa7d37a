use Rattle.sparc_runs.proofs.Levels.{depths}
use Rattle.sparc_runs.proofs.step_laws.depths_are_windows.Goals as goal

pub returns : goal.returns
returns c = depths
