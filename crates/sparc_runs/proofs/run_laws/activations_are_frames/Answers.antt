use Rattle.sparc_runs.proofs.Activations.{are_frames}
use Rattle.sparc_runs.proofs.run_laws.activations_are_frames.Goals as goal

pub returns : goal.returns
returns c = are_frames
