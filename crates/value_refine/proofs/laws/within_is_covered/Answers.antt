use Rattle.value_refine.proofs.LawLemmas.{within_covers}
use Rattle.value_refine.proofs.laws.within_is_covered.Goals as goal

pub returns : goal.returns
returns c = within_covers
