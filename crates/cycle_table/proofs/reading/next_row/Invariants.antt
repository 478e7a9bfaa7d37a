use Rattle.std.proofs.Common.{◌≡◌, ◌+◌, ◌≤◌, length}
use Rattle.std.specs.Str.Lines.{lines}
use Rattle.cycle_table.specs.Row.{rows_from}
use Rattle.cycle_table.proofs.reading.next_row.Given as goal

-- the lines so far have no words
abbrev pub invariant-loop-line : goal.invariant-loop-line
invariant-loop-line l = record {
  same : rows_from (l.fn.before + 1) (lines l.fn.text) ≡ rows_from (l.number + 1) (lines l.rest);
  later : l.fn.before ≤ l.number;
  shorter : l.number + length l.rest ≤ l.fn.before + length l.fn.text;
}

abbrev pub decreases-loop-line : goal.decreases-loop-line
decreases-loop-line l = length l.rest
