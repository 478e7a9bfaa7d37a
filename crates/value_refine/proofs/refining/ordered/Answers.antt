use Rattle.value_refine.proofs.ReachLemmas.{iff_trans, less_than_some, not_less_than_some, at_most_some, above_some}
use Rattle.value_refine.proofs.refining.ordered.Goals as goal

pub returns-in-true-true : goal.returns-in-true-true
returns-in-true-true c = rw (c.in-true-true.is-0, c.in-true-true.is-1) (λ k word. iff_trans (c.below.ensures k word) (less_than_some c.args.ends k c.requires))

pub returns-in-true-false : goal.returns-in-true-false
returns-in-true-false c = rw (c.in-true-false.is-0, c.in-true-false.is-1)
    (λ k word. iff_trans (c.from.ensures k word) (not_less_than_some c.args.ends k c.requires))

pub returns-in-false-true : goal.returns-in-false-true
returns-in-false-true c = rw (c.in-false-true.is-0, c.in-false-true.is-1) (λ k word. iff_trans (c.up_to.ensures k word) (at_most_some c.args.ends k c.requires))

pub returns-in-false-false : goal.returns-in-false-false
returns-in-false-false c = rw (c.in-false-false.is-0, c.in-false-false.is-1)
    (λ k word. iff_trans (c.above.ensures k word) (above_some c.args.ends k c.requires))
