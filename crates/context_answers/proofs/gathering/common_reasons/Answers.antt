use Rattle.std.proofs.Common.{◌≡◌, ◌++◌, List, length, map, ap, subst, ◌∙◌}
use Rattle.abs_state.specs.Key.{compare}
use Rattle.abs_state.specs.declared.key.Place.{Place}
use Rattle.context_answers.proofs.Gathered.{gathered}
use Rattle.context_answers.proofs.gathering.common_reasons.Goals as goal
use Rattle.context_answers.specs.Adding.{Adds, IsOpenAmong, gap_reason, window_reasons}
use Rattle.flow_system.specs.Facts.{fact_at}
use Rattle.wcet_report.specs.declared.reason.Reason.{Reason}
use Rattle.wcet_report.specs.declared.reason.Reason.TheVariants as reason

pub returns : goal.returns
returns c =
    let one : c.push_gaps.new.reasons.items ≡ map (λ gap. gap_reason gap.0 gap.1) c.gaps.result.now =
    c.in_ok-push_gaps.ensures {u = tt} ∙ ap (λ (l : List Reason). l ++ map (λ gap. gap_reason gap.0 gap.1) c.gaps.result.now) c.new-reasons.ensures.items in
    let two : c.push_recursions.new.reasons.items ≡ map (λ gap. gap_reason gap.0 gap.1) c.gaps.result.now ++ map (λ pc. reason.Recursion pc) c.recursive.result.now =
    c.in_ok-push_recursions.ensures {u = tt} ∙ ap (λ (l : List Reason). l ++ map (λ pc. reason.Recursion pc) c.recursive.result.now) one in
    gathered c.args.binding.now c.args.view.now (fact_at compare c.args.within.now.facts) c.args.sub c.args.within.now.nodes.items c.args.bounds.now c.gaps.result.now
    c.recursive.result.now c.need.result c.gaps.ensures c.recursive.ensures c.need.ensures c.push_windows.new.reasons.items c.push_calls.new.reasons.items
    (c.in_ok-push_windows.ensures {u = tt} ∙ ap (λ (l : List Reason). l ++ window_reasons c.need.result) two)
    (subst
    (λ (l : List Place). Adds (IsOpenAmong c.args.binding.now c.args.view.now.callings (fact_at compare c.args.within.now.facts) c.args.sub l c.args.bounds.now (length l))
    c.push_windows.new.reasons.items c.push_calls.new.reasons.items) c.deref.ensures.value (c.in_ok-push_calls.ensures {u = tt}))
