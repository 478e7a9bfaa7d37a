use Rattle.outcome_laws.proofs.Reached.{reached_are_bounded}
use Rattle.outcome_laws.proofs.laws.reached_are_bounded.Goals as goal

pub returns : goal.returns
returns c = reached_are_bounded
