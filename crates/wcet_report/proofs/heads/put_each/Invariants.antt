use Rattle.std.proofs.Common.{◌≡◌, ◌++◌, drop}
use Rattle.std.specs.List.{flat_map}
use Rattle.wcet_report.proofs.heads.put_each.Given as goal
use Rattle.wcet_report.specs.Outcome.{loop_line}

-- what is appended so far, and what is still to be appended
abbrev pub invariant-loop-each : goal.invariant-loop-each
invariant-loop-each l =
    l.text.items ++ flat_map loop_line (drop l.each-index l.loops) ≡ l.initial.text.items ++ flat_map loop_line l.loops
