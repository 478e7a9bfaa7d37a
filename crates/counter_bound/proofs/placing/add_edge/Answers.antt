use Rattle.std.proofs.Common.{◌==◌, ℕ, get_or, Result, Ok, Err, subst}
use Rattle.std.specs.Ordering.{nat_cmp}
use Rattle.std.specs.List.Sorted.{IsBinarySearchResult}
use Rattle.bt_base.specs.Graph.{is_edge}
use Rattle.counter_bound.proofs.Places.{found_tells, none_tells, or_none, with_row}
use Rattle.loop_nest.proofs.Places.{on_ok}
use Rattle.counter_bound.proofs.placing.add_edge.Goals as goal

pub returns-in-Ok-clause-row : goal.returns-in-Ok-clause-row
returns-in-Ok-clause-row c =
    let s : IsBinarySearchResult (λ y. nat_cmp y c.args.next) c.args.body.now (Ok c.in-Ok.to) =
    subst (λ (r : Result ℕ ℕ). IsBinarySearchResult (λ y. nat_cmp y c.args.next) c.args.body.now r) c.in-Ok.is c.binary_search.ensures.position in
    on_ok c.add.result c.add.ensures.edges
    (λ edges j l. with_row c.args.small.now c.add.new.self c.args.place c.in-Ok.to edges j (get_or c.args.body.now j 0 == c.args.next)
    (found_tells c.args.body.now c.requires.rising c.args.next c.in-Ok.to s j l))

pub returns-in-Err-clause-row : goal.returns-in-Err-clause-row
returns-in-Err-clause-row c =
    let s : IsBinarySearchResult (λ y. nat_cmp y c.args.next) c.args.body.now (Err c.in-Err.field-0) =
    subst (λ (r : Result ℕ ℕ). IsBinarySearchResult (λ y. nat_cmp y c.args.next) c.args.body.now r) c.in-Err.is c.binary_search.ensures.position in
    λ j l. or_none (is_edge c.args.small.now c.args.place j) (get_or c.args.body.now j 0 == c.args.next)
    (none_tells c.args.body.now c.requires.rising c.args.next c.in-Err.field-0 s j l)
