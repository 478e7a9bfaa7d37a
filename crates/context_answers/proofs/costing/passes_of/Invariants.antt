use Rattle.std.proofs.Common.{◌≡◌, ◌++◌, drop, map}
use Rattle.context_answers.proofs.costing.passes_of.Given as goal
use Rattle.context_answers.specs.Found.{passes_in}

-- what is listed so far, and what is still to be listed
abbrev pub invariant-loop-outcome : goal.invariant-loop-outcome
invariant-loop-outcome l = l.passes.items ++ map passes_in (drop l.outcome-index l.outcomes) ≡ map passes_in l.outcomes
