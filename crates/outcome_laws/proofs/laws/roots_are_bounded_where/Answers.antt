use Rattle.outcome_laws.proofs.Reached.{roots_are_bounded_where}
use Rattle.outcome_laws.proofs.laws.roots_are_bounded_where.Goals as goal

pub returns : goal.returns
returns c = roots_are_bounded_where
