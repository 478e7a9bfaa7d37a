use Rattle.abs_state.specs.Key.{compare}
use Rattle.context_answers.proofs.Gathered.{call_on, calls_done, none_added}
use Rattle.context_answers.proofs.calling.push_calls.Goals as goal
use Rattle.flow_system.specs.Facts.{fact_at}

pub loop-i-init : goal.loop-i-init
loop-i-init c =
    none_added c.args.binding.now c.args.view.now.callings (fact_at compare c.args.facts.now) c.args.sub c.args.nodes.now c.args.bounds.now c.args.reasons.now.items

pub loop-i-preserved : goal.loop-i-preserved
loop-i-preserved c =
    call_on c.args.binding.now c.args.view.now.callings (fact_at compare c.args.facts.now) c.args.sub c.args.nodes.now c.args.bounds.now c.loop-i.i _ _
    c.args.reasons.now.items c.loop-i.reasons.items c.push_calls_at.new.reasons.items c.loop-i-test.true c.requires c.loop-i.invariant
    (c.in_ok-push_calls_at.ensures {u = tt})

pub returns : goal.returns
returns c =
    calls_done c.args.binding.now c.args.view.now.callings (fact_at compare c.args.facts.now) c.args.sub c.args.nodes.now c.args.bounds.now c.loop-i.i
    c.args.reasons.now.items c.loop-i.reasons.items c.loop-i-test.false c.loop-i.invariant
