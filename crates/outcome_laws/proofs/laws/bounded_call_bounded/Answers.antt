use Rattle.outcome_laws.proofs.Reached.{bounded_call_bounded}
use Rattle.outcome_laws.proofs.laws.bounded_call_bounded.Goals as goal

pub returns : goal.returns
returns c = bounded_call_bounded
