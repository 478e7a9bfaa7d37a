use Rattle.sparc_runs.proofs.HighStacks.{stubs_keep}
use Rattle.sparc_runs.proofs.run_laws.stubs_keep_frames_below.Goals as goal

pub returns : goal.returns
returns c = stubs_keep
