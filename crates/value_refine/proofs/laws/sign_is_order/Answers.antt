use Rattle.value_refine.proofs.ComparisonLemmas.{sign_is_less_than_zero}
use Rattle.value_refine.proofs.LawLemmas.{sign_is_order_against_zero}
use Rattle.value_refine.proofs.laws.sign_is_order.Goals as goal

pub returns : goal.returns
returns c = sign_is_order_against_zero (sign_is_less_than_zero c.comparison_is_signed_order.ensures)
