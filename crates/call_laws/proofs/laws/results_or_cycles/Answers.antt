use Rattle.call_laws.proofs.Results.{or_cycles}
use Rattle.call_laws.proofs.laws.results_or_cycles.Goals as goal

pub returns : goal.returns
returns c = or_cycles
