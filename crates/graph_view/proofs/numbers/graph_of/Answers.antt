use Rattle.graph_view.proofs.Numbered.{step_graph_more}
use Rattle.graph_view.proofs.numbers.graph_of.Goals as goal

pub loop-step-preserved : goal.loop-step-preserved
loop-step-preserved c =
    step_graph_more c.args.nodes.now c.args.steps.now c.loop-step.step-index _ c.loop-step.graph c.add_step.new.graph c.loop-step-test.true
    c.loop-step.invariant c.in_ok-add_step.ensures
