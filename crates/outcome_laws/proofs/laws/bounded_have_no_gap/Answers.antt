use Rattle.outcome_laws.proofs.Reached.{bounded_have_no_gap}
use Rattle.outcome_laws.proofs.laws.bounded_have_no_gap.Goals as goal

pub returns : goal.returns
returns c = bounded_have_no_gap
