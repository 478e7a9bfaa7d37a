use Rattle.sparc_runs.proofs.MeetLaws.{targets_taken}
use Rattle.sparc_runs.proofs.run_laws.targets_are_taken.Goals as goal

pub returns : goal.returns
returns c = targets_taken
