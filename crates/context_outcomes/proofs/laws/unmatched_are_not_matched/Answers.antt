use Rattle.context_outcomes.proofs.Told.{unmatched_are_not_matched}
use Rattle.context_outcomes.proofs.laws.unmatched_are_not_matched.Goals as goal

pub returns : goal.returns
returns c = unmatched_are_not_matched
