use Rattle.std.proofs.Common.{take}
use Rattle.loop_lines.proofs.missing.first_missing.Given as goal
use Rattle.loop_lines.specs.Lines.{IsFirstMissingOrNone}

-- the line is the least of the loops gone through
abbrev pub invariant-loop-one : goal.invariant-loop-one
invariant-loop-one l = IsFirstMissingOrNone (take l.one-index l.lines) l.addresses l.least
