use Rattle.std.proofs.Common.{take}
use Rattle.graph_view.proofs.numbers.graph_of.Given as goal
use Rattle.graph_view.specs.Numbers.{IsStepGraph}

-- the steps gone through are in the graph
abbrev pub invariant-loop-step : goal.invariant-loop-step
invariant-loop-step l = IsStepGraph l.nodes (take l.step-index l.steps) l.graph
