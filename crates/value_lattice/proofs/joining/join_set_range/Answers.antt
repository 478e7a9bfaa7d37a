use Rattle.std.proofs.Common.{rules}
use Rattle.std.proofs.lemmas.Int.{to_z-of_z}
use Rattle.std.specs.Int.{w32}
use Rattle.value_lattice.proofs.JoinLemmas.{join_of_range, join_flip}
use Rattle.value_lattice.specs.declared.value.Value.TheVariants.{Words, Range}
use Rattle.value_lattice.proofs.joining.join_set_range.Goals as goal

pub returns : goal.returns
returns c =
    join_flip c.args.t.now (Range c.args.lo c.args.hi) (Words c.args.set.now) c.widened.result
    (join_of_range c.args.t.now c.args.lo c.args.hi (Words c.args.set.now) c.ends_of-low.result.0 c.ends_of-low.result.1 c.widened.result c.requires.range
    (record { value = c.members.ensures.set; ends = tt }) (rw c.members.ensures.words at c.ends_of-low.ensures) (search rules) (search rules)
    (rw (to_z-of_z w32 c.args.lo c.ranges.lo, to_z-of_z w32 c.args.hi c.ranges.hi) at c.widened.ensures))
