use Rattle.call_laws.proofs.Reasons.{bounded_call}
use Rattle.call_laws.proofs.laws.bounded_call_the_bounded.Goals as goal

pub returns : goal.returns
returns c = bounded_call
