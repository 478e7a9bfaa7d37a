use Rattle.value_refine.specs.Restriction.{IsRestricted, IsShared, IsCompared}
use Rattle.value_refine.proofs.ReachLemmas.{shared_is_reached}
use Rattle.value_refine.proofs.RefineLemmas.{answer_of_same}
use Rattle.value_refine.proofs.refining.compared.Goals as goal

pub returns-in-Equal-true : goal.returns-in-Equal-true
returns-in-Equal-true c =
    let left = c.args.left.now in
    let right = c.args.right.now in
    answer_of_same c.args.t.now (IsShared left right) (IsCompared c.args.c left right) c.meet.result
    (λ w word is. record { has = is.left; reached = (shared_is_reached c.args.c right w c.in-Equal-true.is-0 c.in-Equal-true.is-1 word).0 is.right })
    (λ w word is. record { left = is.has; right = (shared_is_reached c.args.c right w c.in-Equal-true.is-0 c.in-Equal-true.is-1 word).1 is.reached })
    c.meet.ensures

pub returns-in_default : goal.returns-in_default
returns-in_default c =
    let left = c.args.left.now in
    let right = c.args.right.now in
    answer_of_same c.args.t.now (IsRestricted left c.region_of.result) (IsCompared c.args.c left right) c.restrict.result
    (λ w word is. record { has = is.has; reached = (c.region_of.ensures w word).0 is.within })
    (λ w word is. record { has = is.has; within = (c.region_of.ensures w word).1 is.reached })
    c.restrict.ensures
