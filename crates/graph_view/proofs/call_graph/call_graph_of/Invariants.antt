use Rattle.std.proofs.Common.{take}
use Rattle.graph_view.proofs.call_graph.call_graph_of.Given as goal
use Rattle.graph_view.specs.CallGraph.{IsCallGraph}

-- the calls gone through are in the graph
abbrev pub invariant-loop-calling : goal.invariant-loop-calling
invariant-loop-calling l = IsCallGraph l.subs (take l.calling-index l.callings) l.graph
