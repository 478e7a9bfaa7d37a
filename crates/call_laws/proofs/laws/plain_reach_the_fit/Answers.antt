use Rattle.call_laws.proofs.Results.{plain_fit}
use Rattle.call_laws.proofs.laws.plain_reach_the_fit.Goals as goal

pub returns : goal.returns
returns c = plain_fit
