use Rattle.std.proofs.Common.{◌≡◌, ◌==◌, ◌||◌, ◌<◌, ◌+◌, ℕ, true, false, List, length, take, set, get_or, sym, ap, subst, ◌∙◌, arith, Vec, Global}
use Rattle.std.proofs.lemmas.Grind.{get_or_default_zero}
use Rattle.bt_base.specs.Graph.{has, is_edge}
use Rattle.loop_nest.proofs.Lists.{has_take_more, has_take_all, has_at}
use Rattle.path_bound.specs.Places.{loops_in}
use Rattle.path_bound.specs.Ranking.{waits_for, IsRanking}
use Rattle.path_bound.proofs.Rankings.{ranked_order, ranked_all, ranked_quiet, woken_on, waits_read, ranking_told}
use Rattle.path_bound.proofs.ranking.ranked.Goals as goal

pub returns-then-place-len-clause-order : goal.returns-then-place-len-clause-order
returns-then-place-len-clause-order c =
    ranked_order (is_edge c.args.graph.now) (loops_in c.args.loops.now) (length c.args.graph.now) c.args.nodes.now
    (take c.loop-place.place c.loop-place.order.items) c.loop-place.order.items
    c.loop-place.ranking.placed.items c.loop-place.ranking.waiting.items c.requires.ends
    (λ n h. has_take_all c.loop-place.order.items c.loop-place.place n (omega (arith, c.if-place-len.true, c.len.ensures)) ∙ h) c.loop-place.invariant.ranking

pub returns-then-place-len-clause-ready : goal.returns-then-place-len-clause-ready
returns-then-place-len-clause-ready c =
    let all : (n : ℕ) → has c.loop-place.order.items n ≡ true → has (take c.loop-place.place c.loop-place.order.items) n ≡ true =
    λ n h. has_take_all c.loop-place.order.items c.loop-place.place n (omega (arith, c.if-place-len.true, c.len.ensures)) ∙ h in
    record {
      places = c.loop-place.invariant.placed;
      rows = c.loop-place.invariant.waiting;
      all = ranked_all (is_edge c.args.graph.now) (loops_in c.args.loops.now) (length c.args.graph.now) c.args.nodes.now
          (take c.loop-place.place c.loop-place.order.items) c.loop-place.order.items
          c.loop-place.ranking.placed.items c.loop-place.ranking.waiting.items c.requires.ends all c.loop-place.invariant.ranking;
      quiet = ranked_quiet (is_edge c.args.graph.now) (loops_in c.args.loops.now) (length c.args.graph.now) c.args.nodes.now
          (take c.loop-place.place c.loop-place.order.items) c.loop-place.order.items
          c.loop-place.ranking.placed.items c.loop-place.ranking.waiting.items c.requires.ends all c.loop-place.invariant.ranking;
    }

pub returns-clause-order : goal.returns-clause-order
returns-clause-order c =
    ranked_order (is_edge c.args.graph.now) (loops_in c.args.loops.now) (length c.args.graph.now) c.args.nodes.now
    (take c.loop-place.place c.loop-place.order.items) c.loop-place.order.items
    c.loop-place.ranking.placed.items c.loop-place.ranking.waiting.items c.requires.ends
    (λ n h. has_take_all c.loop-place.order.items c.loop-place.place n (omega (arith, c.loop-place.order.small, c.loop-place-test.false)) ∙ h)
    c.loop-place.invariant.ranking

pub returns-clause-ready : goal.returns-clause-ready
returns-clause-ready c =
    let all : (n : ℕ) → has c.loop-place.order.items n ≡ true → has (take c.loop-place.place c.loop-place.order.items) n ≡ true =
    λ n h. has_take_all c.loop-place.order.items c.loop-place.place n (omega (arith, c.loop-place.order.small, c.loop-place-test.false)) ∙ h in
    record {
      places = c.loop-place.invariant.placed;
      rows = c.loop-place.invariant.waiting;
      all = ranked_all (is_edge c.args.graph.now) (loops_in c.args.loops.now) (length c.args.graph.now) c.args.nodes.now
          (take c.loop-place.place c.loop-place.order.items) c.loop-place.order.items
          c.loop-place.ranking.placed.items c.loop-place.ranking.waiting.items c.requires.ends all c.loop-place.invariant.ranking;
      quiet = ranked_quiet (is_edge c.args.graph.now) (loops_in c.args.loops.now) (length c.args.graph.now) c.args.nodes.now
          (take c.loop-place.place c.loop-place.order.items) c.loop-place.order.items
          c.loop-place.ranking.placed.items c.loop-place.ranking.waiting.items c.requires.ends all c.loop-place.invariant.ranking;
    }

pub advance_all-requires-in-loop-place-clause-nodes : goal.advance_all-requires-in-loop-place-clause-nodes
advance_all-requires-in-loop-place-clause-nodes c = λ n h.
    let l : c.loop-place.place < length c.loop-place.order.items = omega (arith, c.if-place-len.false, c.len.ensures) in
    let x : get_or c.loop-place.order.items c.loop-place.place 0 ≡ c.index-node.result.now =
    sym (get_or_default_zero c.loop-place.order.items c.loop-place.place c.index-node.result.now l) ∙ sym c.index-node.ensures in
    let there : has c.loop-place.order.items c.index-node.result.now ≡ true =
    ap (has c.loop-place.order.items) (sym x) ∙ has_at c.loop-place.order.items c.loop-place.place l in
    let inside : has c.args.nodes.now c.index-node.result.now ≡ true = c.loop-place.invariant.ranking.within c.index-node.result.now there in
    let w : c.index-node.result.now < length c.loop-place.ranking.waiting.items =
    (let b : c.index-node.result.now < length c.args.graph.now =
    c.requires.nodes c.index-node.result.now inside in omega (arith, b, c.loop-place.invariant.waiting)) in
    let rows : c.deref.result.now ≡ waits_for c.loop-place.ranking.waiting.items c.index-node.result.now =
    c.deref.ensures.value ∙ (ap (λ (r : Vec ℕ Global). r.items) c.replace-woken.ensures.value
    ∙ waits_read c.loop-place.ranking.waiting.items c.index-node.result.now c.index_mut.result.now w c.index_mut.ensures.value) in
    c.requires.nodes n (c.loop-place.invariant.ranking.listed c.index-node.result.now n (ap (λ (r : List ℕ). has r n) (sym rows) ∙ h))

pub loop-place-preserved : goal.loop-place-preserved
loop-place-preserved c =
    let e = c.in_ok-advance_all-2.ensures {u = tt} in
    let l : c.loop-place.place < length c.loop-place.order.items = omega (arith, c.if-place-len.false, c.len.ensures) in
    let x : get_or c.loop-place.order.items c.loop-place.place 0 ≡ c.index-node.result.now =
    sym (get_or_default_zero c.loop-place.order.items c.loop-place.place c.index-node.result.now l) ∙ sym c.index-node.ensures in
    let there : has c.loop-place.order.items c.index-node.result.now ≡ true =
    ap (has c.loop-place.order.items) (sym x) ∙ has_at c.loop-place.order.items c.loop-place.place l in
    let inside : has c.args.nodes.now c.index-node.result.now ≡ true = c.loop-place.invariant.ranking.within c.index-node.result.now there in
    let w : c.index-node.result.now < length c.loop-place.ranking.waiting.items =
    (let b : c.index-node.result.now < length c.args.graph.now =
    c.requires.nodes c.index-node.result.now inside in omega (arith, b, c.loop-place.invariant.waiting)) in
    let rows : c.deref.result.now ≡ waits_for c.loop-place.ranking.waiting.items c.index-node.result.now =
    c.deref.ensures.value ∙ (ap (λ (r : Vec ℕ Global). r.items) c.replace-woken.ensures.value
    ∙ waits_read c.loop-place.ranking.waiting.items c.index-node.result.now c.index_mut.result.now w c.index_mut.ensures.value) in
    let woke : IsRanking (is_edge c.args.graph.now) (loops_in c.args.loops.now) (length c.args.graph.now) (has c.args.nodes.now)
    (take (c.loop-place.place + 1) c.loop-place.order.items)
    (has (waits_for c.loop-place.ranking.waiting.items c.index-node.result.now)) c.loop-place.order.items c.loop-place.ranking.placed.items
    (set c.loop-place.ranking.waiting.items c.index-node.result.now c.replace-woken.new.dest) =
    woken_on (is_edge c.args.graph.now) (loops_in c.args.loops.now) (length c.args.graph.now) (has c.args.nodes.now)
    (take c.loop-place.place c.loop-place.order.items) (take (c.loop-place.place + 1) c.loop-place.order.items)
    c.index-node.result.now c.loop-place.order.items c.loop-place.ranking.placed.items c.loop-place.ranking.waiting.items c.replace-woken.new.dest
    (λ n. has_take_more c.loop-place.order.items c.loop-place.place n l
    ∙ ap (λ (y : ℕ). has (take c.loop-place.place c.loop-place.order.items) n || (n == y)) x)
    there w (ap (λ (r : Vec ℕ Global). r.items) c.replace-woken.ensures.after ∙ c.new.ensures.items) c.loop-place.invariant.ranking in
    record {
      placed = e.placed;
      waiting = e.waiting;
      ranking = ranking_told (is_edge c.args.graph.now) (loops_in c.args.loops.now) (length c.args.graph.now) (has c.args.nodes.now)
          (take (c.loop-place.place + 1) c.loop-place.order.items)
          (take (c.loop-place.place + 1) c.advance_all-in-loop-place.new.order.items)
          (λ _. false) c.advance_all-in-loop-place.new.order.items c.advance_all-in-loop-place.new.ranking.placed.items
          c.advance_all-in-loop-place.new.ranking.waiting.items (sym (e.grown.kept (c.loop-place.place + 1) (omega (arith, l))))
          (e.ranking (has c.args.nodes.now) (take (c.loop-place.place + 1) c.loop-place.order.items)
          (λ n h. c.loop-place.invariant.ranking.listed c.index-node.result.now n (ap (λ (r : List ℕ). has r n) (sym rows) ∙ h))
          (subst (λ (r : List ℕ). IsRanking (is_edge c.args.graph.now) (loops_in c.args.loops.now) (length c.args.graph.now) (has c.args.nodes.now)
          (take (c.loop-place.place + 1) c.loop-place.order.items)
          (has r) c.loop-place.order.items c.loop-place.ranking.placed.items
          (set c.loop-place.ranking.waiting.items c.index-node.result.now c.replace-woken.new.dest)) (sym rows) woke));
    }
