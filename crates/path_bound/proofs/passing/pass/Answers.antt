use Rattle.std.proofs.Common.{◌≡◌, ◌<◌, ℕ, Option, List, length, get_or, arith, sym, ap, subst, ◌∙◌}
use Rattle.loop_nest.proofs.Lists.{has_at}
use Rattle.path_bound.specs.declared.choosing.Label.{Label}
use Rattle.path_bound.specs.declared.stepping.Step.{Step}
use Rattle.path_bound.specs.Capped.{cap}
use Rattle.path_bound.specs.Choosing.{label_at, best_of, start_at}
use Rattle.path_bound.specs.Steps.{steps_at, AreWithin}
use Rattle.path_bound.proofs.Passed.{passed_begun, passed_on, passed_done, steps_read}
use Rattle.path_bound.proofs.passing.pass.Goals as goal

pub bounds-node-at : goal.bounds-node-at
bounds-node-at c = c.requires.nodes (get_or c.args.order.now c.loop-at.at-index 0) (has_at c.args.order.now c.loop-at.at-index c.loop-at-test.true)

pub bounds-steps-at : goal.bounds-steps-at
bounds-steps-at c =
    let w : get_or c.args.order.now c.loop-at.at-index 0 < length c.args.node.now =
    c.requires.nodes (get_or c.args.order.now c.loop-at.at-index 0) (has_at c.args.order.now c.loop-at.at-index c.loop-at-test.true) in omega
    (arith, w, c.requires.steps)

pub bounds-labels-at : goal.bounds-labels-at
bounds-labels-at c =
    let w : get_or c.args.order.now c.loop-at.at-index 0 < length c.args.node.now =
    c.requires.nodes (get_or c.args.order.now c.loop-at.at-index 0) (has_at c.args.order.now c.loop-at.at-index c.loop-at-test.true) in omega
    (arith, w, c.loop-at.invariant.size)

pub best-requires-clause-laps : goal.best-requires-clause-laps
best-requires-clause-laps c =
    let w : get_or c.args.order.now c.loop-at.at-index 0 < length c.args.node.now =
    c.requires.nodes (get_or c.args.order.now c.loop-at.at-index 0) (has_at c.args.order.now c.loop-at.at-index c.loop-at-test.true) in
    let r : c.deref.result.now ≡ steps_at c.args.steps.now (get_or c.args.order.now c.loop-at.at-index 0) =
    c.deref.ensures.value ∙ steps_read c.args.steps.now (get_or c.args.order.now c.loop-at.at-index 0) c.index-steps-at.result
    (omega (arith, w, c.requires.steps)) c.index-steps-at.is in
    subst (λ (n : ℕ). AreWithin n c.deref.result.now) (sym c.requires.laps)
    (subst (λ (s : List Step). AreWithin (length c.args.node.now) s) (sym r) (c.requires.within (get_or c.args.order.now c.loop-at.at-index 0)))

pub loop-at-init : goal.loop-at-init
loop-at-init c = passed_begun c.args.order.now c.args.head c.args.node.now c.args.steps.now c.args.laps.now c.args.labels.now c.requires.labels c.requires.none

pub loop-at-preserved : goal.loop-at-preserved
loop-at-preserved c =
    let x : ℕ = get_or c.args.order.now c.loop-at.at-index 0 in
    let w : x < length c.args.node.now = c.requires.nodes x (has_at c.args.order.now c.loop-at.at-index c.loop-at-test.true) in
    let r : c.deref.result.now ≡ steps_at c.args.steps.now x =
    c.deref.ensures.value ∙ steps_read c.args.steps.now x c.index-steps-at.result (omega (arith, w, c.requires.steps)) c.index-steps-at.is in
    passed_on c.args.order.now c.args.head c.args.node.now c.args.steps.now c.args.laps.now c.loop-at.at-index c.loop-at.labels c.best.result
    c.loop-at-test.true
    (c.requires.once c.loop-at.at-index c.loop-at-test.true) (omega (arith, w, c.loop-at.invariant.size))
    (c.best.ensures
    ∙ (ap (λ (o : Option Label). best_of cap c.args.head (λ m. get_or c.args.laps.now m 0) (label_at c.loop-at.labels) o c.deref.result.now)
    c.start_of-start.ensures
    ∙ ap (λ (s : List Step). best_of cap c.args.head (λ m. get_or c.args.laps.now m 0) (label_at c.loop-at.labels)
    (start_at c.args.head (cap (get_or c.args.node.now x 0))) s) r))
    c.loop-at.invariant

pub returns : goal.returns
returns c = passed_done c.args.order.now c.args.head c.args.node.now c.args.steps.now c.args.laps.now c.loop-at.at-index c.loop-at.labels
    (omega (arith, c.loop-at-test.false, c.loop-at.auto.at-index-end)) c.loop-at.invariant
