use Rattle.sparc_runs.proofs.Places.{empty_stays}
use Rattle.sparc_runs.proofs.run_laws.empty_stacks_stay.Goals as goal

pub returns : goal.returns
returns c = empty_stays
