use Rattle.value_lattice.proofs.CompareLemmas.{iff_trans, iff_never, ret_in_range}
use Rattle.value_lattice.proofs.JoinLemmas.{no_ret_in_set}
use Rattle.value_lattice.proofs.comparing.has_return_address.Goals as goal

pub returns-in-Words : goal.returns-in-Words
returns-in-Words c =
    let set = rw c.in-Words.is at c.requires in
    rw c.in-Words.is (iff_never (no_ret_in_set c.in-Words.field-0 set))

pub returns-in-Range : goal.returns-in-Range
returns-in-Range c = rw c.in-Range.is (iff_trans (rw c.in-Range.is at c.has_between.ensures) (ret_in_range c.in-Range.lo c.in-Range.hi))
