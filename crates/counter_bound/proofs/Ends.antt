-- The ends of a value are in order.
use Rattle.std.proofs.Common.{◌≤◌, arith}
use Rattle.value_lattice.specs.Ends.{AreEndsOf, low_end, high_end, least_place, greatest_place}
use Rattle.value_lattice.specs.Order.{word_at}
use Rattle.value_lattice.specs.Value.{IsValue, IsBetween}
use Rattle.value_lattice.specs.declared.value.Value.{Value}
use Rattle.value_lattice.specs.declared.value.Value.TheVariants.{Words, Range, Ret}
use Rattle.value_lattice.proofs.LeastLemmas.{ends_exist}

pub ends_rise : (v : Value) → IsValue v → low_end v ≤ high_end v
unfolding low_end high_end
ends_rise (Words words) value =
    let e : AreEndsOf words (least_place words) (greatest_place words) = ends_exist (Words words) value in
    let b : IsBetween (least_place words) (greatest_place words) (word_at (least_place words)) = e.between (word_at (least_place words)) e.least in
    omega (arith, b.0, b.1)
ends_rise (Range lo hi) value = omega (arith, value.2)
ends_rise Ret value = omega arith
