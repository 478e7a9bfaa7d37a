use Rattle.sparc_runs.proofs.Goings.{lead_back}
use Rattle.sparc_runs.proofs.step_laws.returns_lead_back.Goals as goal

pub returns : goal.returns
returns c = lead_back
