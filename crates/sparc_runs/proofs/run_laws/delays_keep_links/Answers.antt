use Rattle.sparc_runs.proofs.Transfers.{keep_links}
use Rattle.sparc_runs.proofs.run_laws.delays_keep_links.Goals as goal

pub returns : goal.returns
returns c = keep_links
