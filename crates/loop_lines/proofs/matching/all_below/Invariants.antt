use Rattle.loop_lines.proofs.matching.all_below.Given as goal
use Rattle.loop_lines.specs.Matched.{AreBelow}

-- the numbers so far are those below the counter
abbrev pub invariant-loop-node : goal.invariant-loop-node
invariant-loop-node l = AreBelow l.node l.nodes.items
