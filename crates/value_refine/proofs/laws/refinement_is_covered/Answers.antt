use Rattle.value_refine.proofs.LawLemmas.{refined_covers}
use Rattle.value_refine.proofs.laws.refinement_is_covered.Goals as goal

pub returns : goal.returns
returns c = refined_covers
