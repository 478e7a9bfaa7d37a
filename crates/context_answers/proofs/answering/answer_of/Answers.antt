use Rattle.std.proofs.Common.{◌↔◌, List, Contains, sym, subst}
use Rattle.std.specs.Map.{keys_of}
use Rattle.std.proofs.lemmas.Result.{IfOk-weaker}
use Rattle.abs_state.specs.Key.{compare}
use Rattle.assert_bind.specs.declared.body.BoundAssertion.{BoundAssertion}
use Rattle.bt_base.specs.Graph.{is_edge}
use Rattle.context_answers.proofs.Answers.{nested_is, split_is}
use Rattle.context_answers.proofs.Opened.{opened_viewed}
use Rattle.context_answers.proofs.answering.answer_of.Goals as goal
use Rattle.context_answers.specs.Adding.{IsCommon}
use Rattle.context_answers.specs.Answered.{IsAnswer}
use Rattle.context_answers.specs.Found.{IsNested, IsSplit}
use Rattle.context_bounds.specs.Setting.{setting_of}
use Rattle.context_inside.specs.Within.{inside_of}
use Rattle.flow_system.specs.Facts.{fact_at}
use Rattle.graph_laws.specs.Scope.{AreFirstEntries}
use Rattle.graph_view.specs.View.{ByKind, IsViewed, by_kind}
use Rattle.loop_nest.specs.LoopNest.{IsRefusal}
use Rattle.loop_nest.specs.declared.refusal.NestRefusal.{NestRefusal}
use Rattle.wcet_report.specs.declared.reason.Reason.{Reason}

pub common_reasons-requires-clause-viewed : goal.common_reasons-requires-clause-viewed
common_reasons-requires-clause-viewed c =
    subst (λ (v : ByKind). IsViewed v c.args.sub) (sym c.requires.view)
    (opened_viewed (setting_of c.args.system.now c.args.cycles.now c.args.whole.now) c.args.sub c.args.within.now c.requires.opened)

pub returns-in-Ok : goal.returns-in-Ok
returns-in-Ok c = λ context args callees arguments is leads.
    let members : (one : Reason) → Contains c.in_ok-reasons.reasons.items one
    ↔ IsCommon c.args.system.now.binding (by_kind (keys_of c.args.whole.now)) (fact_at compare c.args.within.now.facts) c.args.sub c.args.within.now.nodes.items c.args.bounds.now one =
    λ one.
    subst
    (λ (v : ByKind). Contains c.in_ok-reasons.reasons.items one
    ↔ IsCommon c.args.system.now.binding v (fact_at compare c.args.within.now.facts) c.args.sub c.args.within.now.nodes.items c.args.bounds.now one) c.requires.view
    (subst
    (λ (b : List BoundAssertion). Contains c.in_ok-reasons.reasons.items one
    ↔ IsCommon b c.args.view.now (fact_at compare c.args.within.now.facts) c.args.sub c.args.within.now.nodes.items c.args.bounds.now one) c.binding.ensures
    (c.in_ok-reasons.ensures {u = tt} one)) in
    IfOk-weaker c.nested.result
    (IsNested (setting_of c.args.system.now c.args.cycles.now c.args.whole.now) c.args.sub c.args.within.now c.args.bounds.now c.in-Ok.nest c.in_ok-reasons.reasons.items)
    (IsAnswer (setting_of c.args.system.now c.args.cycles.now c.args.whole.now) (inside_of context arguments is) callees)
    (λ answer n.
    nested_is (setting_of c.args.system.now c.args.cycles.now c.args.whole.now) context arguments is callees c.args.bounds.now leads
    c.in_ok-reasons.reasons.items members c.in-Ok.nest (c.in-Ok.ensures {u = tt}) answer n)
    c.nested.ensures

pub returns-in-Err-TwoEntries : goal.returns-in-Err-TwoEntries
returns-in-Err-TwoEntries c = λ context args callees arguments is leads.
    let members : (one : Reason) → Contains c.in_ok-reasons.reasons.items one
    ↔ IsCommon c.args.system.now.binding (by_kind (keys_of c.args.whole.now)) (fact_at compare c.args.within.now.facts) c.args.sub c.args.within.now.nodes.items c.args.bounds.now one =
    λ one.
    subst
    (λ (v : ByKind). Contains c.in_ok-reasons.reasons.items one
    ↔ IsCommon c.args.system.now.binding v (fact_at compare c.args.within.now.facts) c.args.sub c.args.within.now.nodes.items c.args.bounds.now one) c.requires.view
    (subst
    (λ (b : List BoundAssertion). Contains c.in_ok-reasons.reasons.items one
    ↔ IsCommon b c.args.view.now (fact_at compare c.args.within.now.facts) c.args.sub c.args.within.now.nodes.items c.args.bounds.now one) c.binding.ensures
    (c.in_ok-reasons.ensures {u = tt} one)) in
    let entries : AreFirstEntries (is_edge c.args.within.now.graph) c.args.within.now.entry c.in-Err-TwoEntries.x c.in-Err-TwoEntries.y =
    subst (λ (r : NestRefusal). IsRefusal (is_edge c.args.within.now.graph) c.args.within.now.entry r) c.in-Err-TwoEntries.field-0-is
    (c.in-Err-TwoEntries.ensures {u = tt}) in
    IfOk-weaker c.split.result (IsSplit c.args.within.now c.in-Err-TwoEntries.x c.in-Err-TwoEntries.y c.in_ok-reasons.reasons.items)
    (IsAnswer (setting_of c.args.system.now c.args.cycles.now c.args.whole.now) (inside_of context arguments is) callees)
    (λ answer s.
    split_is (setting_of c.args.system.now c.args.cycles.now c.args.whole.now) context arguments is callees c.args.bounds.now leads
    c.in_ok-reasons.reasons.items members c.in-Err-TwoEntries.x c.in-Err-TwoEntries.y entries answer s)
    c.split.ensures
