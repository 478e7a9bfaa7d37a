use Rattle.sparc_text.specs.Progress.{IsListedUpTo, remaining}
use Rattle.sparc_text.proofs.lines.listing.Given as goal

abbrev pub invariant-loop-next : goal.invariant-loop-next
invariant-loop-next l = IsListedUpTo l.image l.text.items l.next

abbrev pub decreases-loop-next : goal.decreases-loop-next
decreases-loop-next l = remaining l.next
