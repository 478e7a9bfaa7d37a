use Rattle.std.proofs.Common.{◌≡◌, ◌+◌, ◌<◌, ◌≤◌, ℕ, Some, None, List, length, get_or, leb, sym, ap, subst, ◌∙◌, arith}
use Rattle.std.specs.List.{slice_get}
use Rattle.std.proofs.lemmas.Bool.{leb-true, le-leb}
use Rattle.std.proofs.lemmas.Option.{slice_get-get_or}
use Rattle.bt_base.specs.Graph.{has, is_edge}
use Rattle.loop_nest.specs.declared.natural_loop.Loop.{Loop}
use Rattle.path_bound.specs.Capped.{limit, cap}
use Rattle.path_bound.specs.Choosing.{label_at, cost_of}
use Rattle.path_bound.specs.Places.{loops_in}
use Rattle.path_bound.specs.Turning.{IsWeighed}
use Rattle.path_bound.proofs.Bodies.{order_below, head_below, passed_order}
use Rattle.path_bound.proofs.Placed.{some_one}
use Rattle.path_bound.proofs.blaming.is_large.Goals as goal

pub bounds-laps-one : goal.bounds-laps-one
bounds-laps-one c =
    let at : slice_get c.args.loops.now c.args.place ≡ Some c.index-loops-place.result =
    slice_get-get_or c.args.loops.now c.args.place c.index-loops-place.result c.requires.place ∙ ap (λ (x : Loop). Some x) (sym c.index-loops-place.is) in
    let w : c.index-loops-place.result.head < length c.args.places.now =
    head_below (is_edge c.args.graph.now) (loops_in c.args.loops.now)
    (length c.args.places.now) c.args.loops.now c.requires.loops c.args.place c.index-loops-place.result at c.deref.result.now
    c.deref.ensures.value c.in_ok-order.order.items (c.in_ok-order.ensures {u = tt}).order in omega
    (arith, w, c.requires.count, c.requires.sizes.lapped)

pub cost_at-requires : goal.cost_at-requires
cost_at-requires c =
    let at : slice_get c.args.loops.now c.args.place ≡ Some c.index-loops-place.result =
    slice_get-get_or c.args.loops.now c.args.place c.index-loops-place.result c.requires.place ∙ ap (λ (x : Loop). Some x) (sym c.index-loops-place.is) in
    let w : c.index-loops-place.result.head < length c.args.places.now =
    head_below (is_edge c.args.graph.now) (loops_in c.args.loops.now)
    (length c.args.places.now) c.args.loops.now c.requires.loops c.args.place c.index-loops-place.result at c.deref.result.now
    c.deref.ensures.value c.in_ok-order.order.items (c.in_ok-order.ensures {u = tt}).order in omega
    (arith, w, c.requires.count, c.requires.sizes.marked, c.pass.auto.labels)

pub clear-requires : goal.clear-requires
clear-requires c = λ n h.
    let at : slice_get c.args.loops.now c.args.place ≡ Some c.index-loops-place.result =
    slice_get-get_or c.args.loops.now c.args.place c.index-loops-place.result c.requires.place ∙ ap (λ (x : Loop). Some x) (sym c.index-loops-place.is) in
    let w : n < length c.args.places.now =
    order_below (is_edge c.args.graph.now) (loops_in c.args.loops.now)
    (length c.args.places.now) c.args.loops.now c.requires.loops c.args.place c.index-loops-place.result at c.deref.result.now
    c.deref.ensures.value c.in_ok-order.order.items
    (c.in_ok-order.ensures {u = tt}).order c.deref-3.result.now c.deref-3.ensures.value n h in omega
    (arith, w, c.requires.count, c.requires.sizes.marked, c.pass.auto.labels)

pub returns-clause-weighed : goal.returns-clause-weighed
returns-clause-weighed c = λ two e.
    let at : slice_get c.args.loops.now c.args.place ≡ Some c.index-loops-place.result =
    slice_get-get_or c.args.loops.now c.args.place c.index-loops-place.result c.requires.place ∙ ap (λ (x : Loop). Some x) (sym c.index-loops-place.is) in
    let sum : c.sum-cost.result ≡ cap (get_or c.args.laps.now c.index-loops-place.result.head 0 + cost_of
    (label_at c.pass.new.labels c.index-loops-place.result.head)) =
    c.sum-cost.ensures ∙ ap (λ (x : ℕ). cap (get_or c.args.laps.now c.index-loops-place.result.head 0 + x)) c.cost_at.ensures in
    subst (λ (x : Loop). IsWeighed (is_edge c.args.graph.now) (loops_in c.args.loops.now) x c.args.node.now c.args.steps.now c.args.laps.now
    (leb limit c.sum-cost.result)) (some_one (sym at ∙ e)) (record {
      nodes = c.in_ok-order.order.items;
      sorted = record {
        same = λ n. (c.in_ok-order.ensures {u = tt}).order.same n ∙ ap (λ (x : List ℕ). has x n) c.deref.ensures.value;
        once = (c.in_ok-order.ensures {u = tt}).order.once;
        before = λ k m a b. (c.in_ok-order.ensures {u = tt}).order.before k m a (ap (λ (x : List ℕ). has x m) c.deref.ensures.value ∙ b);
      };
      labels = c.pass.new.labels;
      passed = passed_order (is_edge c.args.graph.now) (loops_in c.args.loops.now)
          (length c.args.places.now) c.args.loops.now c.requires.loops c.args.place c.index-loops-place.result at c.deref.result.now
          c.deref.ensures.value c.in_ok-order.order.items
          (c.in_ok-order.ensures {u = tt}).order c.deref-2.result.now c.deref-2.ensures.value None c.args.node.now c.args.steps.now c.args.laps.now
          c.pass.new.labels c.pass.ensures;
      says = (
        (λ t. subst (λ (x : ℕ). limit ≤ x) sum (leb-true limit c.sum-cost.result t)),
        (λ h. le-leb limit c.sum-cost.result (subst (λ (x : ℕ). limit ≤ x) (sym sum) h)),
      );
    })
