use Rattle.graph_rows.specs.Reaching.{AreMarksOfReached}
use Rattle.graph_rows.proofs.reaching.mark_next.Given as goal

-- what is marked is reached
abbrev pub invariant-loop-next : goal.invariant-loop-next
invariant-loop-next l = AreMarksOfReached l.graph l.marks
