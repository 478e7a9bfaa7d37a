use Rattle.value_refine.proofs.LawLemmas.{within_monotone}
use Rattle.value_refine.proofs.laws.within_is_monotone.Goals as goal

pub returns : goal.returns
returns c = within_monotone
