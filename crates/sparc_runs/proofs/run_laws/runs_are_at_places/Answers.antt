use Rattle.sparc_runs.proofs.Places.{at_places}
use Rattle.sparc_runs.proofs.run_laws.runs_are_at_places.Goals as goal

pub returns : goal.returns
returns c = at_places
