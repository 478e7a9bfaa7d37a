use Rattle.value_lattice.specs.declared.value.Value.TheVariants.{Words, Range}
use Rattle.value_lattice.proofs.JoinLemmas.{join_of_ret}
use Rattle.value_lattice.proofs.ValueLemmas.{no_set_in_ret, no_range_in_ret}
use Rattle.value_lattice.proofs.joining.join_ret.Goals as goal

pub returns-in-Words : goal.returns-in-Words
returns-in-Words c =
    let over = rw c.in-Words.is at c.requires in
    rw c.in-Words.is (join_of_ret c.args.t.now (Words c.in-Words.field-0) c.range_between.result (no_set_in_ret c.in-Words.field-0 over.value)
    c.range_between.ensures)

pub returns-in-Range : goal.returns-in-Range
returns-in-Range c =
    let over = rw c.in-Range.is at c.requires in
    rw c.in-Range.is (join_of_ret c.args.t.now (Range c.in-Range.lo c.in-Range.hi) c.range_between-in-Range.result
    (no_range_in_ret c.in-Range.lo c.in-Range.hi over.value) c.range_between-in-Range.ensures)
