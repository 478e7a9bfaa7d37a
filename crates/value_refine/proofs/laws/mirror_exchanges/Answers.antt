use Rattle.value_refine.proofs.ComparisonLemmas.{mirror_is}
use Rattle.value_refine.proofs.laws.mirror_exchanges.Goals as goal

pub returns : goal.returns
returns c = λ condition x y below mirrored xw yw. mirror_is c.comparison_is_equality.ensures c.comparison_is_signed_order.ensures
    c.comparison_is_unsigned_order.ensures x y xw yw condition below mirrored
