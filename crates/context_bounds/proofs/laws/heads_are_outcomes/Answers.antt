use Rattle.context_bounds.proofs.Heads.{heads_are_outcomes}
use Rattle.context_bounds.proofs.laws.heads_are_outcomes.Goals as goal

pub returns : goal.returns
returns c = heads_are_outcomes
