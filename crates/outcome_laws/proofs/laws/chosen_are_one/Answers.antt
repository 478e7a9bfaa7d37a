use Rattle.outcome_laws.proofs.Bounds.{chosen_are_one}
use Rattle.outcome_laws.proofs.laws.chosen_are_one.Goals as goal

pub returns : goal.returns
returns c = chosen_are_one
