use Rattle.std.proofs.Common.{sym, ◌∙◌}
use Rattle.std.proofs.lemmas.Result.{on_ok_weaker}
use Rattle.abs_state.specs.Key.{compare}
use Rattle.context_answers.proofs.Calls.{at_not_into, back_not_into, point_added, point_left}
use Rattle.context_answers.proofs.calling.push_calls_at.Goals as goal
use Rattle.flow_system.specs.Facts.{fact_at}

pub returns-in-At : goal.returns-in-At
returns-in-At c =
    point_left c.args.binding.now c.args.view.now.callings (fact_at compare c.args.facts.now) c.args.sub c.args.p c.args.bound c.args.reasons.now.items
    (λ t e. at_not_into _ t (sym c.in-At.is ∙ e))

pub returns-in-Into : goal.returns-in-Into
returns-in-Into c =
    on_ok_weaker c.push_call.result
    (λ added.
    point_added c.args.binding.now c.args.view.now.callings (fact_at compare c.args.facts.now) c.args.sub c.args.p c.args.bound c.in-Into.target
    c.args.reasons.now.items c.push_call.new.reasons.items c.in-Into.is added)
    c.push_call.ensures

pub returns-in-Back : goal.returns-in-Back
returns-in-Back c =
    point_left c.args.binding.now c.args.view.now.callings (fact_at compare c.args.facts.now) c.args.sub c.args.p c.args.bound c.args.reasons.now.items
    (λ t e. back_not_into t (sym c.in-Back.is ∙ e))
