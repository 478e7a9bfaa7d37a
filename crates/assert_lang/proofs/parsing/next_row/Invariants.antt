use Rattle.std.proofs.Common.{◌≡◌, ◌+◌, ◌≤◌, length}
use Rattle.std.specs.Str.Lines.{lines}
use Rattle.assert_lang.specs.Text.{rows_from}
use Rattle.assert_lang.proofs.parsing.next_row.Given as goal

-- the lines so far have no words
abbrev pub invariant-loop-piece : goal.invariant-loop-piece
invariant-loop-piece l = record {
  same : rows_from (l.fn.before + 1) (lines l.fn.text) ≡ rows_from (l.number + 1) (lines l.rest);
  later : l.fn.before ≤ l.number;
  shorter : l.number + length l.rest ≤ l.fn.before + length l.fn.text;
}

abbrev pub decreases-loop-piece : goal.decreases-loop-piece
decreases-loop-piece l = length l.rest
