use Rattle.value_lattice.proofs.MayLemmas.{least_is_one}
use Rattle.value_refine.specs.Refinement.{IsWithin}
use Rattle.value_refine.proofs.laws.within_is_one.Goals as goal

pub returns : goal.returns
returns c = λ t low high a r s one other. least_is_one t (IsWithin a low high) r s one other
