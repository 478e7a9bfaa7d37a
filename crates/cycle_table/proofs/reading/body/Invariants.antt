use Rattle.std.proofs.Common.{◌+◌, ◌≤◌, All, length}
use Rattle.std.specs.Str.Lines.{lines}
use Rattle.cycle_table.specs.Row.{rows_from}
use Rattle.cycle_table.proofs.Tables.{IsRead}
use Rattle.cycle_table.proofs.reading.body.Given as goal

-- the lines so far are read, and the costs are what they give
abbrev pub invariant-loop-row : goal.invariant-loop-row
invariant-loop-row l = record {
  read : IsRead l.fn.version (rows_from (l.fn.before + 1) (lines l.fn.text)) (rows_from (l.number + 1) (lines l.rest)) l.costs;
  within : l.number + length l.rest ≤ l.fn.before + length l.fn.text;
  most : All (λ cost. cost ≤ 1000000) l.costs;
}

abbrev pub decreases-loop-row : goal.decreases-loop-row
decreases-loop-row l = length l.rest
