use Rattle.sparc_runs.proofs.HighStacks.{frames_above}
use Rattle.sparc_runs.proofs.run_laws.high_frames_are_above.Goals as goal

pub returns : goal.returns
returns c = frames_above
