use Rattle.code_thresholds.specs.Noted.{AreGathered, left}
use Rattle.code_thresholds.proofs.gathering.code_numbers.Given as goal

abbrev pub invariant-loop-next : goal.invariant-loop-next
invariant-loop-next l = AreGathered l.image l.list.items l.next

abbrev pub decreases-loop-next : goal.decreases-loop-next
decreases-loop-next l = left l.next
