use Rattle.std.proofs.lemmas.Int.{to_z-of_z}
use Rattle.std.specs.Int.{w32}
use Rattle.std.specs.Prelude.{FitsSigned}
use Rattle.std.proofs.Common.{rules}
use Rattle.value_lattice.proofs.ValueLemmas.{range_is_least}
use Rattle.value_lattice.proofs.rounding.range_between.Goals as goal

pub returns : goal.returns
returns c =
    let lo : FitsSigned w32 c.number_at_place.result = search rules in
    let hi : FitsSigned w32 c.number_at_place-2.result = search rules in
    rw (to_z-of_z w32 c.number_at_place.result lo, to_z-of_z w32 c.number_at_place-2.result hi)
    (range_is_least c.args.t.now c.args.low c.args.high _ _ c.requires c.ranges.high.fits lo hi (rw c.number_at_place.ensures c.at_or_below.ensures)
    (rw c.number_at_place-2.ensures c.at_or_above.ensures))
