use Rattle.std.proofs.Common.{◌≡◌, ◌++◌, drop}
use Rattle.std.specs.List.{flat_map}
use Rattle.wcet_report.proofs.reasons.put_reasons.Given as goal
use Rattle.wcet_report.specs.Outcome.{reason_line}

-- what is appended so far, and what is still to be appended
abbrev pub invariant-loop-reason : goal.invariant-loop-reason
invariant-loop-reason l =
    l.text.items ++ flat_map (reason_line l.image) (drop l.reason-index l.reasons)
    ≡ l.initial.text.items ++ flat_map (reason_line l.image) l.reasons
