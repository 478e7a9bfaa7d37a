use Rattle.call_laws.proofs.Results.{results_one}
use Rattle.call_laws.proofs.laws.results_are_one.Goals as goal

pub returns : goal.returns
returns c = results_one
