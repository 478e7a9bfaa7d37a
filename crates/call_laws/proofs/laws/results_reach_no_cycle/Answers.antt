use Rattle.call_laws.proofs.Results.{results_away}
use Rattle.call_laws.proofs.laws.results_reach_no_cycle.Goals as goal

pub returns : goal.returns
returns c = results_away
