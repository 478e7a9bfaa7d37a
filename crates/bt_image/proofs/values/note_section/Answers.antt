use Rattle.std.proofs.Common.{arith}
use Rattle.bt_image.proofs.ValueLemmas.{more_noted}
use Rattle.bt_image.proofs.values.note_section.Goals as goal

pub loop-k-preserved : goal.loop-k-preserved
loop-k-preserved c =
    more_noted c.args.file.now c.args.s c.loop-k.k c.loop-k.seen.items c.note_word.new.seen.items c.args.found.now.items
    c.loop-k.found.items c.note_word.new.found.items
    (omega arith) (omega arith) c.loop-k.invariant c.in_ok-note_word.ensures
