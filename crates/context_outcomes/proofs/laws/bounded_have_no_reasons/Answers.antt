use Rattle.context_outcomes.proofs.Bounded.{bounded_have_no_reasons}
use Rattle.context_outcomes.proofs.laws.bounded_have_no_reasons.Goals as goal

pub returns : goal.returns
returns c = bounded_have_no_reasons
