use Rattle.bt_image.specs.Values.{AreNoted}
use Rattle.bt_image.proofs.values.note_section.Given as goal

-- the words of the section so far were looked at
abbrev pub invariant-loop-k : goal.invariant-loop-k
invariant-loop-k l = AreNoted l.file l.s l.k l.seen.items l.fn.found.items l.found.items
