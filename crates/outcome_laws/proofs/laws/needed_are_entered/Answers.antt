use Rattle.outcome_laws.proofs.Needed.{needed_are_entered}
use Rattle.outcome_laws.proofs.laws.needed_are_entered.Goals as goal

pub returns : goal.returns
returns c = needed_are_entered
