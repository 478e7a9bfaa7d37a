use Rattle.std.proofs.Common.{refl, arith}
use Rattle.bt_image.proofs.LoadingLemmas.{no_section}
use Rattle.bt_image.proofs.NextLemmas.{next_here, next_there, next_nowhere}
use Rattle.bt_image.proofs.next_code.next_word.Goals as goal

pub returns-then-stands_before : goal.returns-then-stands_before
returns-then-stands_before c =
    next_here c.args.table.now c.begun-place.result c.args.a _ refl c.begun-place.ensures.within c.begun-place.ensures.below c.if-stands_before.ensures

pub returns-then-place-table : goal.returns-then-place-table
returns-then-place-table c =
    next_there c.args.table.now c.begun-place.result c.args.a _ no_section refl c.requires.apart c.requires.words
    (omega arith) c.begun-place.ensures.above c.if-stands_before.ensures

pub returns : goal.returns
returns c = next_nowhere c.args.table.now c.begun-place.result c.args.a _ refl (omega arith) c.if-stands_before.ensures
