use Rattle.bt_image.specs.Values.{AreShared}
use Rattle.bt_image.proofs.rising.shared.Given as goal

-- what the numbers so far share with the others
abbrev pub invariant-loop-i : goal.invariant-loop-i
invariant-loop-i l = AreShared l.numbers l.others l.i l.found.items
