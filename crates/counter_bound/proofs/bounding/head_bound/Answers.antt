use Rattle.std.proofs.Common.{◌≡◌, ◌<◌, ◌^◌, ℕ, Option, Some, List, length, sym, ap, subst, ◌∙◌}
use Rattle.std.specs.List.{slice_get}
use Rattle.std.specs.List.Sorted.{IsStrictlyIncreasing}
use Rattle.abs_state.specs.declared.head_bound.HeadBound.{HeadBound}
use Rattle.bt_base.specs.Graph.{has, is_edge}
use Rattle.counter_bound.specs.Counts.{IsBoundOrNone}
use Rattle.counter_bound.proofs.Bodies.{rising, nodes_below, head_in, few, one_at}
use Rattle.counter_bound.proofs.Candidates.{some_same}
use Rattle.counter_bound.proofs.Stepping.{if_ok}
use Rattle.loop_nest.specs.declared.natural_loop.Loop.{Loop}
use Rattle.path_bound.specs.Places.{loops_in}
use Rattle.counter_bound.proofs.bounding.head_bound.Goals as goal

pub body_graph-requires-clause-rising : goal.body_graph-requires-clause-rising
body_graph-requires-clause-rising c =
    let at : slice_get c.args.nest.now c.args.number ≡ Some c.index-loops-number.result =
    one_at c.loops.result.now c.args.nest.now c.args.number c.index-loops-number.result c.loops.ensures c.requires.number c.index-loops-number.is in
    subst (λ (l : List ℕ). IsStrictlyIncreasing l) (sym c.deref.ensures.value)
    (rising c.args.graph.now c.args.nest.now c.requires.nest c.args.number c.index-loops-number.result at)

pub body_graph-requires-clause-few : goal.body_graph-requires-clause-few
body_graph-requires-clause-few c =
    let at : slice_get c.args.nest.now c.args.number ≡ Some c.index-loops-number.result =
    one_at c.loops.result.now c.args.nest.now c.args.number c.index-loops-number.result c.loops.ensures c.requires.number c.index-loops-number.is in
    subst (λ (l : List ℕ). length l < 2 ^ 32) (sym c.deref.ensures.value)
    (few c.args.graph.now c.args.nest.now c.requires.nest c.args.number c.index-loops-number.result at c.count-count.ensures.graph.counted)

pub body_graph-requires-clause-nodes : goal.body_graph-requires-clause-nodes
body_graph-requires-clause-nodes c =
    let at : slice_get c.args.nest.now c.args.number ≡ Some c.index-loops-number.result =
    one_at c.loops.result.now c.args.nest.now c.args.number c.index-loops-number.result c.loops.ensures c.requires.number c.index-loops-number.is in
    λ n h. nodes_below c.args.graph.now c.args.nest.now c.requires.nest c.args.number c.index-loops-number.result at n
    (ap (λ (l : List ℕ). has l n) (sym c.deref.ensures.value) ∙ h)

pub place_in-at-requires-clause-rising : goal.place_in-at-requires-clause-rising
place_in-at-requires-clause-rising c =
    let at : slice_get c.args.nest.now c.args.number ≡ Some c.index-loops-number.result =
    one_at c.loops.result.now c.args.nest.now c.args.number c.index-loops-number.result c.loops.ensures c.requires.number c.index-loops-number.is in
    subst (λ (l : List ℕ). IsStrictlyIncreasing l) (sym c.deref-2.ensures.value)
    (rising c.args.graph.now c.args.nest.now c.requires.nest c.args.number c.index-loops-number.result at)

pub place_in-at-requires-clause-there : goal.place_in-at-requires-clause-there
place_in-at-requires-clause-there c =
    let at : slice_get c.args.nest.now c.args.number ≡ Some c.index-loops-number.result =
    one_at c.loops.result.now c.args.nest.now c.args.number c.index-loops-number.result c.loops.ensures c.requires.number c.index-loops-number.is in
    ap (λ (l : List ℕ). has l c.index-loops-number.result.head) c.deref-2.ensures.value
    ∙ head_in c.args.graph.now c.args.nest.now c.requires.nest c.args.number c.index-loops-number.result at

pub best_of-requires-clause-number : goal.best_of-requires-clause-number
best_of-requires-clause-number c =
    (c.args.number, one_at c.loops.result.now c.args.nest.now c.args.number c.index-loops-number.result c.loops.ensures c.requires.number c.index-loops-number.is)

pub returns : goal.returns
returns c =
    let at : slice_get c.args.nest.now c.args.number ≡ Some c.index-loops-number.result =
    one_at c.loops.result.now c.args.nest.now c.args.number c.index-loops-number.result c.loops.ensures c.requires.number c.index-loops-number.is in
    if_ok c.best_of.result
    (λ (bound : Option HeadBound). IsBoundOrNone (is_edge c.args.graph.now) (loops_in c.args.nest.now) c.index-loops-number.result.head c.args.changes.now c.args.head.now bound)
    (λ (bound : Option HeadBound). (one : Loop) → slice_get c.args.nest.now c.args.number ≡ Some one
    → IsBoundOrNone (is_edge c.args.graph.now) (loops_in c.args.nest.now) one.head c.args.changes.now c.args.head.now bound)
    (λ bound h one e. subst
    (λ (x : Loop). IsBoundOrNone (is_edge c.args.graph.now) (loops_in c.args.nest.now) x.head c.args.changes.now c.args.head.now bound)
    (some_same (sym at ∙ e)) h) c.best_of.ensures
