use Rattle.std.proofs.Common.{◌≡◌, ◌++◌, drop, map}
use Rattle.context_answers.proofs.gathering.push_gaps.Given as goal
use Rattle.context_answers.specs.Adding.{gap_reason}

-- what is appended so far, and what is still to be appended
abbrev pub invariant-loop-gap : goal.invariant-loop-gap
invariant-loop-gap l = l.reasons.items ++ map (λ gap. gap_reason gap.0 gap.1) (drop l.gap-index l.gaps) ≡ l.initial.reasons.items ++ map (λ gap. gap_reason gap.0 gap.1) l.gaps
