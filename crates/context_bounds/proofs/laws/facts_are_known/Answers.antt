use Rattle.context_bounds.proofs.Known.{facts_are_known}
use Rattle.context_bounds.proofs.laws.facts_are_known.Goals as goal

pub returns : goal.returns
returns c = facts_are_known
