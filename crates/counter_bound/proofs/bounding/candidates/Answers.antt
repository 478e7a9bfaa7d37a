use Rattle.std.proofs.Common.{◌<◌, ℕ, List, length, sym, ap, subst, ◌∙◌, arith}
use Rattle.std.specs.List.Sorted.{IsStrictlyIncreasing}
use Rattle.bt_base.specs.Graph.{has}
use Rattle.loop_nest.specs.LoopNest.{HeadsRise}
use Rattle.loop_nest.specs.declared.natural_loop.Loop.{Loop}
use Rattle.counter_bound.proofs.Bodies.{rising, nodes_below}
use Rattle.counter_bound.proofs.Candidates.{borrowed_are}
use Rattle.counter_bound.proofs.bounding.candidates.Goals as goal

pub inner_marks-requires : goal.inner_marks-requires
inner_marks-requires c = record {
  heads = subst (λ (l : List Loop). HeadsRise l) (sym c.loops.ensures) c.requires.nest.nest.rising;
  rising = subst (λ (l : List ℕ). IsStrictlyIncreasing l) (sym c.deref.ensures.value)
      (rising c.args.graph.now c.args.nest.now c.requires.nest c.requires.number.0 c.args.one.now c.requires.number.1);
}

pub all_touched-requires-clause-nodes : goal.all_touched-requires-clause-nodes
all_touched-requires-clause-nodes c = λ n h.
    let l : n < length c.args.graph.now = nodes_below c.args.graph.now c.args.nest.now c.requires.nest c.requires.number.0 c.args.one.now c.requires.number.1 n
    (ap (λ (l : List ℕ). has l n) (sym c.deref-2.ensures.value) ∙ h) in
    omega (arith, l, c.requires.changes)

pub returns : goal.returns
returns c = borrowed_are c.args.graph.now c.args.nest.now c.requires.nest c.requires.number.0 c.args.one.now c.requires.number.1 c.args.changes.now
    c.requires.changes c.requires.added c.loops.result.now c.deref.result.now c.deref-2.result.now c.in_ok-inner.inner.items c.deref-3.result.now
    c.all_touched.result c.loops.ensures c.deref.ensures.value c.deref-2.ensures.value c.deref-3.ensures.value (c.in_ok-inner.ensures {u = tt})
    c.all_touched.ensures
