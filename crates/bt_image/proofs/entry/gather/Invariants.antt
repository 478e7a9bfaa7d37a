use Rattle.bt_image.specs.Entry.{AreEntries}
use Rattle.bt_image.proofs.entry.gather.Given as goal

-- the function symbols so far
abbrev pub invariant-loop-k : goal.invariant-loop-k
invariant-loop-k l = AreEntries l.file l.k l.entries.items
