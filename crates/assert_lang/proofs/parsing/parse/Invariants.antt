use Rattle.std.proofs.Common.{◌≡◌, ◌+◌, ◌≤◌, length, All}
use Rattle.std.specs.Str.Lines.{lines}
use Rattle.assert_lang.specs.Bounds.{AssertsWithin}
use Rattle.assert_lang.specs.Text.{rows_from, list_of}
use Rattle.assert_lang.proofs.AssertionLists.{decided}
use Rattle.assert_lang.proofs.parsing.parse.Given as goal

-- the assertions so far, and what the lines that are left decide behind them
abbrev pub invariant-loop-row : goal.invariant-loop-row
invariant-loop-row l = record {
  same : list_of (rows_from 1 (lines l.fn.bytes)) ≡ decided l.list.items (rows_from (l.number + 1) (lines l.rest));
  few : length l.list.items ≤ 4096;
  sound : All AssertsWithin l.list.items;
  within : l.number + length l.rest ≤ length l.fn.bytes;
}

abbrev pub decreases-loop-row : goal.decreases-loop-row
decreases-loop-row l = length l.rest
