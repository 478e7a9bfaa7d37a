use Rattle.call_laws.proofs.Reasons.{reach_reason}
use Rattle.call_laws.proofs.laws.unbounded_reach_a_reason.Goals as goal

pub returns : goal.returns
returns c = reach_reason
