use Rattle.std.proofs.Common.{◌≡◌, ◌++◌, drop}
use Rattle.std.specs.List.{flat_map}
use Rattle.context_answers.proofs.gathering.push_loops.Given as goal
use Rattle.context_answers.specs.Adding.{loop_reasons}

-- what is appended so far, and what is still to be appended
abbrev pub invariant-loop-outcome : goal.invariant-loop-outcome
invariant-loop-outcome l = l.reasons.items ++ flat_map loop_reasons (drop l.outcome-index l.outcomes) ≡ l.initial.reasons.items ++ flat_map loop_reasons l.outcomes
