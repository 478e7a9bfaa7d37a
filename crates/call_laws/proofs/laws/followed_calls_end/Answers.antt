use Rattle.call_laws.proofs.Chains.{followed_end}
use Rattle.call_laws.proofs.laws.followed_calls_end.Goals as goal

pub returns : goal.returns
returns c = followed_end
