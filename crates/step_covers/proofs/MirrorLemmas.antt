-- What comparisons mean, and the condition that says the same of the sides exchanged.
use Rattle.std.proofs.Common.{◌≡◌, ◌||◌, Bool, true, false, refl, arith}
use Rattle.std.proofs.lemmas.Bool.Decides.{nat_tests}
use Rattle.value_refine.proofs.ComparisonLemmas.{mirror_is}
use Rattle.value_refine.specs.Laws.{MirrorExchanges}
use Rattle.word_ops.specs.Condition.{ComparisonIsEquality, ComparisonIsSignedOrder, ComparisonIsUnsignedOrder}

equality : ComparisonIsEquality
equality x y a b = grind (arith, nat_tests)

signed_order : ComparisonIsSignedOrder
signed_order x y a b = (grind (arith, nat_tests), grind (arith, nat_tests))

unsigned_order : ComparisonIsUnsignedOrder
unsigned_order x y a b = (grind (arith, nat_tests), grind (arith, nat_tests))

-- x and y make the condition what y and x make the mirrored one
pub mirror_exchanges : MirrorExchanges
mirror_exchanges condition x y below mirrored xw yw = mirror_is equality signed_order unsigned_order x y xw yw condition below mirrored

-- neither of two that one of isn't
pub or_false : (a b : Bool) → (a || b) ≡ false → a ≡ false
or_false true b e = e
or_false false b e = refl
