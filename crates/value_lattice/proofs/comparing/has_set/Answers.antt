use Rattle.std.proofs.Common.{rules}
use Rattle.std.proofs.lemmas.Int.{to_z-of_z}
use Rattle.std.specs.Int.{w32}
use Rattle.std.specs.Prelude.{FitsSigned}
use Rattle.value_lattice.proofs.CompareLemmas.{iff_trans, iff_never, set_in_set, set_in_range}
use Rattle.value_lattice.proofs.ValueLemmas.{no_set_in_ret}
use Rattle.value_lattice.proofs.comparing.has_set.Goals as goal

pub returns-in-Words : goal.returns-in-Words
returns-in-Words c = rw c.in-Words.is (iff_trans (rw c.members.ensures.words at c.are_among.ensures) (set_in_set c.args.set.now c.in-Words.words c.requires))

pub returns-in-Range : goal.returns-in-Range
returns-in-Range c =
    let lo : FitsSigned w32 c.in-Range.lo = search rules in
    let hi : FitsSigned w32 c.in-Range.hi = search rules in
    rw c.in-Range.is (iff_trans (rw (
      c.rank.ensures,
      c.rank-in-Range.ensures,
      c.members-in-Range.ensures.words,
      to_z-of_z w32 c.in-Range.lo lo,
      to_z-of_z w32
          c.in-Range.hi hi,
    ) at c.are_between.ensures) (set_in_range c.args.set.now c.in-Range.lo c.in-Range.hi c.requires))

pub returns-in-Ret : goal.returns-in-Ret
returns-in-Ret c = rw c.in-Ret.is (iff_never (no_set_in_ret c.args.set.now c.requires))
