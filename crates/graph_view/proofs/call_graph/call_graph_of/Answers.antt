use Rattle.graph_view.proofs.CallGraphs.{graph_more}
use Rattle.graph_view.proofs.call_graph.call_graph_of.Goals as goal

pub loop-calling-preserved : goal.loop-calling-preserved
loop-calling-preserved c =
    graph_more c.args.subs.now c.args.callings.now c.loop-calling.calling-index _ c.loop-calling.graph c.add_call.new.graph c.loop-calling-test.true
    c.loop-calling.invariant c.in_ok-add_call.ensures
