use Rattle.std.proofs.Common.{◌<◌, ℕ, Option, IfSome, List, length, sym, ap, ◌∙◌, arith}
use Rattle.bt_base.specs.Graph.{has, is_edge}
use Rattle.counter_bound.specs.Best.{IsShortStep}
use Rattle.counter_bound.specs.Change.{changes_of}
use Rattle.counter_bound.proofs.Bodies.{nodes_below}
use Rattle.counter_bound.proofs.Stepping.{AreSums, sums_of, if_ok, sums_balanced, step_is, step_short}
use Rattle.path_bound.specs.Places.{loops_in}
use Rattle.turn_sums.specs.Search.{steps_of, all_nodes}
use Rattle.turn_sums.specs.Step.{IsStepOrNone}
use Rattle.turn_sums.specs.declared.step.TurnStep.{TurnStep}
use Rattle.counter_bound.proofs.bounding.cell_step.Goals as goal

pub ups_of-requires : goal.ups_of-requires
ups_of-requires c = record {
  nodes = λ n h.
      let l : n < length c.args.graph.now = nodes_below c.args.graph.now c.args.nest.now c.requires.nest c.requires.number.0 c.args.one.now c.requires.number.1 n
      (ap (λ (l : List ℕ). has l n) (sym c.deref.ensures.value) ∙ h) in
      omega (arith, l, c.requires.changes);
}

pub downs_of-requires : goal.downs_of-requires
downs_of-requires c = record {
  nodes = λ n h.
      let l : n < length c.args.graph.now = nodes_below c.args.graph.now c.args.nest.now c.requires.nest c.requires.number.0 c.args.one.now c.requires.number.1 n
      (ap (λ (l : List ℕ). has l n) (sym c.deref-2.ensures.value) ∙ h) in
      omega (arith, l, c.requires.changes);
}

pub turn_step-requires-clause-balanced : goal.turn_step-requires-clause-balanced
turn_step-requires-clause-balanced c =
    let u = c.in_ok-ups.ensures {u = tt} in let d = c.in_ok-downs.ensures {u = tt} in
    let s : AreSums c.args.one.now.body.items c.args.changes.now c.args.cell c.deref-3.result.now c.deref-4.result.now =
    sums_of c.args.one.now.body.items c.deref.result.now c.deref-2.result.now c.in_ok-ups.ups.items c.deref-3.result.now c.in_ok-downs.downs.items
    c.deref-4.result.now c.args.changes.now c.args.cell c.deref.ensures.value c.deref-2.ensures.value c.deref-3.ensures.value c.deref-4.ensures.value
    u.count d.count u.ups d.downs u.most d.most in
    sums_balanced c.args.graph.now c.args.nest.now c.requires.nest c.requires.number.0 c.args.one.now c.requires.number.1 c.count-count.ensures.graph
    c.args.small.now c.requires.small c.count-places.ensures.graph c.args.at c.requires.place c.requires.head c.args.changes.now c.args.cell
    c.deref-3.result.now c.deref-4.result.now s c.requires.added

pub returns-clause-step : goal.returns-clause-step
returns-clause-step c =
    let u = c.in_ok-ups.ensures {u = tt} in let d = c.in_ok-downs.ensures {u = tt} in
    let s : AreSums c.args.one.now.body.items c.args.changes.now c.args.cell c.deref-3.result.now c.deref-4.result.now =
    sums_of c.args.one.now.body.items c.deref.result.now c.deref-2.result.now c.in_ok-ups.ups.items c.deref-3.result.now c.in_ok-downs.downs.items
    c.deref-4.result.now c.args.changes.now c.args.cell c.deref.ensures.value c.deref-2.ensures.value c.deref-3.ensures.value c.deref-4.ensures.value
    u.count d.count u.ups d.downs u.most d.most in
    if_ok c.turn_step.result (λ (step : Option TurnStep). IsStepOrNone (is_edge c.args.small.now) all_nodes c.args.at (steps_of c.deref-3.result.now c.deref-4.result.now) step)
    (λ (step : Option TurnStep). IsStepOrNone (is_edge c.args.graph.now) ((loops_in c.args.nest.now).body c.args.one.now.head) c.args.one.now.head (changes_of c.args.changes.now c.args.cell) step)
    (step_is c.args.graph.now c.args.nest.now c.requires.nest c.requires.number.0 c.args.one.now c.requires.number.1 c.count-count.ensures.graph
    c.args.small.now c.requires.small c.count-places.ensures.graph c.args.at c.requires.place c.requires.head c.args.changes.now c.args.cell
    c.deref-3.result.now c.deref-4.result.now s c.requires.added) c.turn_step.ensures

pub returns-clause-short : goal.returns-clause-short
returns-clause-short c =
    let u = c.in_ok-ups.ensures {u = tt} in let d = c.in_ok-downs.ensures {u = tt} in
    let s : AreSums c.args.one.now.body.items c.args.changes.now c.args.cell c.deref-3.result.now c.deref-4.result.now =
    sums_of c.args.one.now.body.items c.deref.result.now c.deref-2.result.now c.in_ok-ups.ups.items c.deref-3.result.now c.in_ok-downs.downs.items
    c.deref-4.result.now c.args.changes.now c.args.cell c.deref.ensures.value c.deref-2.ensures.value c.deref-3.ensures.value c.deref-4.ensures.value
    u.count d.count u.ups d.downs u.most d.most in
    if_ok c.turn_step.result (λ (step : Option TurnStep). IsStepOrNone (is_edge c.args.small.now) all_nodes c.args.at (steps_of c.deref-3.result.now c.deref-4.result.now) step)
    (λ (step : Option TurnStep). IfSome step IsShortStep)
    (step_short c.args.graph.now c.args.nest.now c.requires.nest c.requires.number.0 c.args.one.now c.requires.number.1 c.count-count.ensures.graph
    c.args.small.now c.requires.small c.count-places.ensures.graph c.args.at c.requires.place c.requires.head c.args.changes.now c.args.cell
    c.deref-3.result.now c.deref-4.result.now s c.requires.added) c.turn_step.ensures
