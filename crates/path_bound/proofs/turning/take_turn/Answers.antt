use Rattle.std.proofs.Common.{◌≡◌, ◌<◌, ℕ, Some, List, length, set, get_or, refl, sym, ap, subst, ◌∙◌, arith}
use Rattle.std.specs.List.{slice_get}
use Rattle.std.proofs.lemmas.Option.{slice_get-get_or}
use Rattle.bt_base.specs.Graph.{has, is_edge}
use Rattle.loop_nest.specs.declared.natural_loop.Loop.{Loop}
use Rattle.path_bound.specs.declared.long_walk.Turn.{Turn}
use Rattle.path_bound.specs.Places.{loops_in}
use Rattle.path_bound.specs.Turning.{IsTaken}
use Rattle.path_bound.proofs.Bodies.{order_below, head_below, head_placed, labels_within, labels_fall, passed_order}
use Rattle.path_bound.proofs.Placed.{some_one}
use Rattle.path_bound.proofs.turning.take_turn.Goals as goal

pub follow-requires-clause-within : goal.follow-requires-clause-within
follow-requires-clause-within c = λ n m e.
    let at : slice_get c.args.loops.now c.args.place ≡ Some c.index-loops-place.result =
    slice_get-get_or c.args.loops.now c.args.place c.index-loops-place.result c.requires.place ∙ ap (λ (x : Loop). Some x) (sym c.index-loops-place.is) in
    let w : m < length c.args.places.now =
    labels_within (is_edge c.args.graph.now) (loops_in c.args.loops.now)
    (length c.args.places.now) c.args.loops.now c.requires.loops c.args.place c.index-loops-place.result at c.deref.result.now
    c.deref.ensures.value c.in_ok-order.order.items (c.in_ok-order.ensures {u = tt}).order c.deref-2.result.now c.deref-2.ensures.value
    (Some c.index-loops-place.result.head) c.args.node.now c.args.steps.now c.args.laps.now c.pass.new.labels c.pass.ensures n m e in omega
    (arith, w, c.requires.count, c.requires.sizes.marked, c.pass.auto.labels)

pub follow-requires-clause-falls : goal.follow-requires-clause-falls
follow-requires-clause-falls c = λ n m e.
    let at : slice_get c.args.loops.now c.args.place ≡ Some c.index-loops-place.result =
    slice_get-get_or c.args.loops.now c.args.place c.index-loops-place.result c.requires.place ∙ ap (λ (x : Loop). Some x) (sym c.index-loops-place.is) in
    labels_fall (is_edge c.args.graph.now) (loops_in c.args.loops.now)
    (length c.args.places.now) c.args.loops.now c.requires.loops c.args.place c.index-loops-place.result at c.deref.result.now
    c.deref.ensures.value c.in_ok-order.order.items (c.in_ok-order.ensures {u = tt}).order c.deref-2.result.now c.deref-2.ensures.value
    (Some c.index-loops-place.result.head) c.args.node.now c.args.steps.now c.args.laps.now c.pass.new.labels c.pass.ensures c.deref-3.result.now
    c.deref-3.ensures.value n m e

pub follow-requires-clause-from : goal.follow-requires-clause-from
follow-requires-clause-from c =
    let at : slice_get c.args.loops.now c.args.place ≡ Some c.index-loops-place.result =
    slice_get-get_or c.args.loops.now c.args.place c.index-loops-place.result c.requires.place ∙ ap (λ (x : Loop). Some x) (sym c.index-loops-place.is) in
    let w : c.index-loops-place.result.head < length c.args.places.now =
    head_below (is_edge c.args.graph.now) (loops_in c.args.loops.now)
    (length c.args.places.now) c.args.loops.now c.requires.loops c.args.place c.index-loops-place.result at c.deref.result.now
    c.deref.ensures.value c.in_ok-order.order.items (c.in_ok-order.ensures {u = tt}).order in omega
    (arith, w, c.requires.count, c.requires.sizes.marked, c.pass.auto.labels)

pub follow-requires-clause-placed : goal.follow-requires-clause-placed
follow-requires-clause-placed c =
    let at : slice_get c.args.loops.now c.args.place ≡ Some c.index-loops-place.result =
    slice_get-get_or c.args.loops.now c.args.place c.index-loops-place.result c.requires.place ∙ ap (λ (x : Loop). Some x) (sym c.index-loops-place.is) in
    head_placed (is_edge c.args.graph.now) (loops_in c.args.loops.now)
    (length c.args.places.now) c.args.loops.now c.requires.loops c.args.place c.index-loops-place.result at c.deref.result.now
    c.deref.ensures.value c.in_ok-order.order.items
    (c.in_ok-order.ensures {u = tt}).order c.requires.heads c.deref-3.result.now c.deref-3.ensures.value

pub cost_at-cost-requires : goal.cost_at-cost-requires
cost_at-cost-requires c =
    let at : slice_get c.args.loops.now c.args.place ≡ Some c.index-loops-place.result =
    slice_get-get_or c.args.loops.now c.args.place c.index-loops-place.result c.requires.place ∙ ap (λ (x : Loop). Some x) (sym c.index-loops-place.is) in
    let w : c.index-loops-place.result.head < length c.args.places.now =
    head_below (is_edge c.args.graph.now) (loops_in c.args.loops.now)
    (length c.args.places.now) c.args.loops.now c.requires.loops c.args.place c.index-loops-place.result at c.deref.result.now
    c.deref.ensures.value c.in_ok-order.order.items (c.in_ok-order.ensures {u = tt}).order in omega
    (arith, w, c.requires.count, c.requires.sizes.marked, c.pass.auto.labels)

pub clear-requires : goal.clear-requires
clear-requires c = λ n h.
    let at : slice_get c.args.loops.now c.args.place ≡ Some c.index-loops-place.result =
    slice_get-get_or c.args.loops.now c.args.place c.index-loops-place.result c.requires.place ∙ ap (λ (x : Loop). Some x) (sym c.index-loops-place.is) in
    let w : n < length c.args.places.now =
    order_below (is_edge c.args.graph.now) (loops_in c.args.loops.now)
    (length c.args.places.now) c.args.loops.now c.requires.loops c.args.place c.index-loops-place.result at c.deref.result.now
    c.deref.ensures.value c.in_ok-order.order.items
    (c.in_ok-order.ensures {u = tt}).order c.deref-4.result.now c.deref-4.ensures.value n h in omega
    (arith, w, c.requires.count, c.requires.sizes.marked, c.pass.auto.labels)

pub bounds-laps-one : goal.bounds-laps-one
bounds-laps-one c =
    let at : slice_get c.args.loops.now c.args.place ≡ Some c.index-loops-place.result =
    slice_get-get_or c.args.loops.now c.args.place c.index-loops-place.result c.requires.place ∙ ap (λ (x : Loop). Some x) (sym c.index-loops-place.is) in
    let w : c.index-loops-place.result.head < length c.args.places.now =
    head_below (is_edge c.args.graph.now) (loops_in c.args.loops.now)
    (length c.args.places.now) c.args.loops.now c.requires.loops c.args.place c.index-loops-place.result at c.deref.result.now
    c.deref.ensures.value c.in_ok-order.order.items (c.in_ok-order.ensures {u = tt}).order in omega
    (arith, w, c.requires.count, c.requires.sizes.lapped)

pub returns-clause-taken : goal.returns-clause-taken
returns-clause-taken c = λ two e.
    let at : slice_get c.args.loops.now c.args.place ≡ Some c.index-loops-place.result =
    slice_get-get_or c.args.loops.now c.args.place c.index-loops-place.result c.requires.place ∙ ap (λ (x : Loop). Some x) (sym c.index-loops-place.is) in
    let turn : Turn = record {
      head = (get_or c.args.turns.now c.args.place c.index-turns-place.result).head;
      cost = c.cost_at-cost.result;
      walk = c.in_ok-walk.walk;
    } in
    let l : c.args.place < length c.args.turns.now = omega (arith, c.requires.place, c.requires.turns) in
    subst (λ (x : Loop). IsTaken (is_edge c.args.graph.now) (loops_in c.args.loops.now) x
    (get_or c.args.bounds.now c.args.place 0) c.args.place c.args.node.now c.args.steps.now c.args.laps.now
    (set c.args.laps.now c.index-loops-place.result.head c.product.result) c.args.turns.now (set c.args.turns.now c.args.place turn))
    (some_one (sym at ∙ e)) (record {
      nodes = c.in_ok-order.order.items;
      sorted = record {
        same = λ n. (c.in_ok-order.ensures {u = tt}).order.same n ∙ ap (λ (x : List ℕ). has x n) c.deref.ensures.value;
        once = (c.in_ok-order.ensures {u = tt}).order.once;
        before = λ k m a b. (c.in_ok-order.ensures {u = tt}).order.before k m a (ap (λ (x : List ℕ). has x m) c.deref.ensures.value ∙ b);
      };
      labels = c.pass.new.labels;
      passed = passed_order (is_edge c.args.graph.now) (loops_in c.args.loops.now)
          (length c.args.places.now) c.args.loops.now c.requires.loops c.args.place c.index-loops-place.result at c.deref.result.now
          c.deref.ensures.value c.in_ok-order.order.items (c.in_ok-order.ensures {u = tt}).order c.deref-2.result.now c.deref-2.ensures.value
          (Some c.index-loops-place.result.head) c.args.node.now c.args.steps.now c.args.laps.now c.pass.new.labels c.pass.ensures;
      turn = turn;
      named = λ was g. ap (λ (x : Turn). x.head) (some_one (sym (slice_get-get_or c.args.turns.now c.args.place c.index-turns-place.result l) ∙ g));
      followed = c.in_ok-walk.ensures {u = tt};
      cost = c.cost_at-cost.ensures;
      laps = ap (λ (x : ℕ). set c.args.laps.now c.index-loops-place.result.head x) c.product.ensures;
      turns = refl;
    })
