use Rattle.std.proofs.Common.{◌≡◌, [], List, length, map, Vec, Global, ap, subst, ◌∙◌, arith}
use Rattle.std.proofs.lemmas.List.{length-map}
use Rattle.std.proofs.lemmas.Result.{IfOk-weaker}
use Rattle.abs_state.specs.Key.{compare}
use Rattle.abs_state.specs.declared.key.Place.{Place}
use Rattle.assert_bind.specs.declared.body.BoundAssertion.{BoundAssertion}
use Rattle.context_answers.proofs.nesting.outcomes_of.Goals as goal
use Rattle.context_answers.specs.Found.{AreHeads, changed_in}
use Rattle.context_bounds.specs.Heads.{AreHeadOutcomes}
use Rattle.context_bounds.specs.Setting.{setting_of}
use Rattle.context_bounds.specs.States.{left_at}
use Rattle.context_outcomes.specs.Counting.{change_at}
use Rattle.counter_bound.specs.declared.change.Change.{Change}
use Rattle.flow_system.specs.Facts.{fact_at}
use Rattle.wcet_report.specs.declared.loops.LoopOutcome.{LoopOutcome}

pub loop_outcomes-requires-clause-count : goal.loop_outcomes-requires-clause-count
loop_outcomes-requires-clause-count c =
    let each = (c.in_ok-changes.ensures {u = tt}).value [] in
    let long : length c.in_ok-changes.changes.items ≡ length c.deref.result.now = ap length each ∙ length-map c.deref.result.now _ in
    omega (arith, long, ap length c.deref-3.ensures.value, ap length c.deref.ensures.value, c.requires.ready.same)

pub returns-clause-heads : goal.returns-clause-heads
returns-clause-heads c = λ costs.
    let changes : c.deref-3.result.now ≡ changed_in (setting_of c.args.system.now costs c.args.whole.now) c.args.within.now =
    c.deref-3.ensures.value
    ∙ ((c.in_ok-changes.ensures {u = tt}).value costs
    ∙ ap
    (λ (l : List Place). map (λ p. change_at (setting_of c.args.system.now costs c.args.whole.now) p
    (left_at c.args.within.now.thresholds c.args.system.now.binding (fact_at compare c.args.within.now.facts) p)) l) c.deref.ensures.value) in
    IfOk-weaker c.loop_outcomes.result
    (λ (list : Vec LoopOutcome Global). AreHeadOutcomes c.args.within.now.graph c.deref-2.result.now c.args.nest.now c.deref-3.result.now
    (left_at c.args.within.now.thresholds c.binding.result.now (fact_at compare c.args.within.now.facts)) c.binding.result.now (length c.args.nest.now) list.items)
    (λ (list : Vec LoopOutcome Global). AreHeads (setting_of c.args.system.now costs c.args.whole.now) c.args.within.now c.args.nest.now list.items)
    (λ list are.
    subst
    (λ (b : List BoundAssertion). AreHeadOutcomes c.args.within.now.graph c.args.within.now.nodes.items c.args.nest.now
    (changed_in (setting_of c.args.system.now costs c.args.whole.now) c.args.within.now)
    (left_at c.args.within.now.thresholds b (fact_at compare c.args.within.now.facts)) b (length c.args.nest.now) list.items) c.binding.ensures
    (subst
    (λ (l : List Change). AreHeadOutcomes c.args.within.now.graph c.args.within.now.nodes.items c.args.nest.now l
    (left_at c.args.within.now.thresholds c.binding.result.now (fact_at compare c.args.within.now.facts)) c.binding.result.now (length c.args.nest.now) list.items) changes
    (subst
    (λ (l : List Place). AreHeadOutcomes c.args.within.now.graph l c.args.nest.now c.deref-3.result.now
    (left_at c.args.within.now.thresholds c.binding.result.now (fact_at compare c.args.within.now.facts)) c.binding.result.now (length c.args.nest.now) list.items)
    c.deref-2.ensures.value are)))
    c.loop_outcomes.ensures.outcomes
