use Rattle.state_covers.proofs.FlagLemmas.{conditions_are_known}
use Rattle.state_covers.proofs.laws.conditions_are_known.Goals as goal

pub returns : goal.returns
returns c = conditions_are_known
