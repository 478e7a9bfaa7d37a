use Rattle.sparc_runs.proofs.MeetLaws.{sights_meet}
use Rattle.sparc_runs.proofs.run_laws.sights_meet.Goals as goal

pub returns : goal.returns
returns c = sights_meet
