use Rattle.sparc_runs.proofs.Pops.{pops_go_on}
use Rattle.sparc_runs.proofs.run_laws.pops_behind_calls_go_on.Goals as goal

pub returns : goal.returns
returns c = pops_go_on
