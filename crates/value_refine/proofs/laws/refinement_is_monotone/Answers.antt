use Rattle.value_refine.proofs.LawLemmas.{refined_is_monotone}
use Rattle.value_refine.proofs.laws.refinement_is_monotone.Goals as goal

pub returns : goal.returns
returns c = refined_is_monotone
