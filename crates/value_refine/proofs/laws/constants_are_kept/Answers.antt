use Rattle.value_refine.proofs.LawLemmas.{always_keeps, never_keeps}
use Rattle.value_refine.proofs.laws.constants_are_kept.Goals as goal

pub returns : goal.returns
returns c = record { all = always_keeps; none = never_keeps }
