use Rattle.std.proofs.Common.{◌==◌, ◌<◌, ℕ, length, get_or, Result, Ok, Err, subst, arith}
use Rattle.std.specs.Ordering.{nat_cmp}
use Rattle.std.specs.List.Sorted.{IsBinarySearchResult}
use Rattle.counter_bound.specs.Body.{is_marked}
use Rattle.counter_bound.proofs.Places.{found_at, found_tells, none_tells, mark_at, or_none}
use Rattle.counter_bound.proofs.marking.mark_node.Goals as goal

pub returns-in-Ok : goal.returns-in-Ok
returns-in-Ok c =
    let s : IsBinarySearchResult (λ y. nat_cmp y c.args.node) c.args.body.now (Ok c.in-Ok.place) =
    subst (λ (r : Result ℕ ℕ). IsBinarySearchResult (λ y. nat_cmp y c.args.node) c.args.body.now r) c.in-Ok.is c.binary_search.ensures.position in
    let f = found_at c.args.body.now c.requires.rising c.args.node c.in-Ok.place s in
    let w : c.in-Ok.place < length c.args.marks.now = omega (arith, f.0, c.requires.count) in
    λ i l. mark_at c.args.marks.now c.in-Ok.place i (get_or c.args.body.now i 0 == c.args.node) w
    (found_tells c.args.body.now c.requires.rising c.args.node c.in-Ok.place s i l)

pub returns-in_default : goal.returns-in_default
returns-in_default c =
    let s : IsBinarySearchResult (λ y. nat_cmp y c.args.node) c.args.body.now (Err c.in_default.field-0) =
    subst (λ (r : Result ℕ ℕ). IsBinarySearchResult (λ y. nat_cmp y c.args.node) c.args.body.now r) c.in_default.is c.binary_search.ensures.position in
    λ i l. or_none (is_marked c.args.marks.now i) (get_or c.args.body.now i 0 == c.args.node)
    (none_tells c.args.body.now c.requires.rising c.args.node c.in_default.field-0 s i l)
