use Rattle.bt_image.specs.NextCode.{IsCodeTable}
use Rattle.bt_image.proofs.next_code.code_table.Given as goal

-- the code sections with a word so far
abbrev pub invariant-loop-i : goal.invariant-loop-i
invariant-loop-i l = IsCodeTable l.loaded l.i l.table.items
