use Rattle.context_outcomes.proofs.PlainBounds.{plain_have_bounds}
use Rattle.context_outcomes.proofs.laws.plain_have_bounds.Goals as goal

pub returns : goal.returns
returns c = plain_have_bounds
