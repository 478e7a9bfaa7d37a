use Rattle.std.proofs.Common.{◌≡◌, ◌++◌, drop, map}
use Rattle.context_answers.proofs.gathering.push_recursions.Given as goal
use Rattle.wcet_report.specs.declared.reason.Reason.TheVariants as reason

-- what is appended so far, and what is still to be appended
abbrev pub invariant-loop-pc : goal.invariant-loop-pc
invariant-loop-pc l = l.reasons.items ++ map (λ pc. reason.Recursion pc) (drop l.pc-index l.addresses) ≡ l.initial.reasons.items ++ map (λ pc. reason.Recursion pc) l.addresses
