use Rattle.std.proofs.Common.{◌≡◌, ◌+◌, ◌<◌, ◌≤◌, ◌^◌, List, length, Some, sym, ap, subst, arith}
use Rattle.std.specs.Prelude.{All, slice_get}
use Rattle.std.proofs.lemmas.List.Elements.{All-push}
use Rattle.std.proofs.lemmas.Option.{slice_get-get_or}
use Rattle.abs_state.specs.Key.{compare}
use Rattle.context_bounds.specs.Heads.{AreHeadOutcomes}
use Rattle.context_bounds.specs.States.{left_at}
use Rattle.context_heads.proofs.Outcomes.{head_within, one_more, place_low}
use Rattle.context_heads.proofs.heads.loop_outcomes.Goals as goal
use Rattle.context_heads.specs.Passes.{AllowsOne}
use Rattle.counter_bound.proofs.Bodies.{one_at}
use Rattle.flow_system.specs.Facts.{fact_at}
use Rattle.wcet_report.specs.declared.loops.LoopOutcome.{LoopOutcome}

pub bounds-nodes-one : goal.bounds-nodes-one
bounds-nodes-one c =
    let low : c.loop-i.i < length c.args.nest.now = omega (arith, c.loop-i-test.true, ap length c.loops-loops.ensures) in
    let at : slice_get c.args.nest.now c.loop-i.i ≡ Some c.index-loops-i.result =
    one_at c.loops-loops.result.now c.args.nest.now c.loop-i.i c.index-loops-i.result c.loops-loops.ensures low c.index-loops-i.is in
    let within : c.index-loops-i.result.head < length c.args.graph.now =
    head_within c.args.graph.now c.args.nest.now c.requires.nest c.loop-i.i c.index-loops-i.result at in
    omega (arith, within, c.requires.nodes)

pub overflow_cast-i : goal.overflow_cast-i
overflow_cast-i c =
    let low : c.loop-i.i < length c.args.nest.now = omega (arith, c.loop-i-test.true, ap length c.loops-loops.ensures) in
    let at : slice_get c.args.nest.now c.loop-i.i ≡ Some c.index-loops-i.result =
    one_at c.loops-loops.result.now c.args.nest.now c.loop-i.i c.index-loops-i.result c.loops-loops.ensures low c.index-loops-i.is in
    let within : c.index-loops-i.result.head < length c.args.graph.now =
    head_within c.args.graph.now c.args.nest.now c.requires.nest c.loop-i.i c.index-loops-i.result at in
    let most : c.loop-i.i ≤ c.index-loops-i.result.head =
    place_low c.args.nest.now c.requires.nest.nest.rising c.loop-i.i c.index-loops-i.result at in
    let few : length c.args.graph.now < 2 ^ 32 = c.count-count.ensures.graph.counted in
    omega (arith, within, most, few)

pub loop_outcome-requires-clause-over : goal.loop_outcome-requires-clause-over
loop_outcome-requires-clause-over c =
    let low : c.loop-i.i < length c.args.nest.now = omega (arith, c.loop-i-test.true, ap length c.loops-loops.ensures) in
    let at : slice_get c.args.nest.now c.loop-i.i ≡ Some c.index-loops-i.result =
    one_at c.loops-loops.result.now c.args.nest.now c.loop-i.i c.index-loops-i.result c.loops-loops.ensures low c.index-loops-i.is in
    let within : c.index-loops-i.result.head < length c.args.graph.now =
    head_within c.args.graph.now c.args.nest.now c.requires.nest c.loop-i.i c.index-loops-i.result at in
    c.requires.over c.index-loops-i.result.head _ (omega (arith, within, c.requires.nodes))

pub loop-i-preserved : goal.loop-i-preserved
loop-i-preserved c =
    let low : c.loop-i.i < length c.args.nest.now = omega (arith, c.loop-i-test.true, ap length c.loops-loops.ensures) in
    let at : slice_get c.args.nest.now c.loop-i.i ≡ Some c.index-loops-i.result =
    one_at c.loops-loops.result.now c.args.nest.now c.loop-i.i c.index-loops-i.result c.loops-loops.ensures low c.index-loops-i.is in
    let within : c.index-loops-i.result.head < length c.args.graph.now =
    head_within c.args.graph.now c.args.nest.now c.requires.nest c.loop-i.i c.index-loops-i.result at in
    let node : c.index-loops-i.result.head < length c.args.nodes.now = omega (arith, within, c.requires.nodes) in (
      subst
          (λ (l : List LoopOutcome). AreHeadOutcomes c.args.graph.now c.args.nodes.now c.args.nest.now c.args.changes.now
          (left_at c.args.t.now c.args.binding.now (fact_at compare c.args.facts.now)) c.args.binding.now (c.loop-i.i + 1) l) (sym c.in_ok-push.ensures.items)
          (one_more c.args.graph.now c.args.nodes.now c.args.nest.now c.args.changes.now
          (left_at c.args.t.now c.args.binding.now (fact_at compare c.args.facts.now)) c.args.binding.now c.loop-i.i c.loop-i.list.items c.index-loops-i.result
          c.in_ok-outcome.outcome c.loop-i.invariant.0 at
          (c.in_ok-outcome.ensures.outcome c.args.nodes.now c.index-loops-i.result at (slice_get-get_or c.args.nodes.now c.index-loops-i.result.head _ node))),
      subst (λ (l : List LoopOutcome). All AllowsOne l) (sym c.in_ok-push.ensures.items)
          (All-push AllowsOne c.loop-i.list.items c.in_ok-outcome.outcome c.loop-i.invariant.1 c.in_ok-outcome.ensures.passes),
    )
