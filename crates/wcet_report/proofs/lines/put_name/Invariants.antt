use Rattle.std.proofs.Common.{◌≡◌, ◌++◌, drop}
use Rattle.wcet_report.proofs.lines.put_name.Given as goal
use Rattle.wcet_report.specs.Line.{shown}

-- what is appended so far, and what is still to be appended
abbrev pub invariant-loop-byte : goal.invariant-loop-byte
invariant-loop-byte l = l.text.items ++ shown (drop l.byte-index l.name) ≡ l.initial.text.items ++ shown l.name
