use Rattle.std.proofs.Common.{arith, rules}
use Rattle.std.specs.Int.{w32}
use Rattle.std.specs.Prelude.{FitsSigned}
use Rattle.std.proofs.lemmas.Int.{to_z-of_z}
use Rattle.value_lattice.proofs.CompareLemmas.{iff_trans, iff_never, between_in_range, no_between_in_set, no_between_in_ret}
use Rattle.value_lattice.proofs.comparing.has_between.Goals as goal

pub returns-in-Words : goal.returns-in-Words
returns-in-Words c =
    let set = rw c.in-Words.is at c.requires.value in
    rw c.in-Words.is (iff_never (no_between_in_set c.args.low c.args.high c.in-Words.field-0 set c.requires.far c.ranges.high.fits))

pub returns-in-Range : goal.returns-in-Range
returns-in-Range c =
    let lo : FitsSigned w32 c.in-Range.lo = search rules in
    let hi : FitsSigned w32 c.in-Range.hi = search rules in
    rw c.in-Range.is (iff_trans (rw (to_z-of_z w32 c.in-Range.lo lo, to_z-of_z w32 c.in-Range.hi hi) at c.encloses.ensures)
    (between_in_range c.args.low c.args.high c.in-Range.lo c.in-Range.hi (omega arith) c.ranges.high.fits))

pub returns-in-Ret : goal.returns-in-Ret
returns-in-Ret c = rw c.in-Ret.is (iff_never (no_between_in_ret c.args.low c.args.high (omega arith) c.ranges.high.fits))
