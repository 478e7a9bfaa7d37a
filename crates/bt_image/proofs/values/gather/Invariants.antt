use Rattle.bt_image.specs.Section.{test_of}
use Rattle.bt_image.specs.Values.{AreGathered}
use Rattle.bt_image.proofs.values.gather.Given as goal

-- the words of the sections of the kind so far were looked at
abbrev pub invariant-loop-i : goal.invariant-loop-i
invariant-loop-i l = AreGathered (test_of l.access) l.file l.loaded l.i l.seen.items l.found.items
