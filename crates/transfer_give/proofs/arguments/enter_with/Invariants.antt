use Rattle.std.proofs.Common.{◌≡◌, drop}
use Rattle.transfer_give.specs.Handed.{handed_in}
use Rattle.transfer_rules.specs.Give.{with_each}
use Rattle.transfer_give.proofs.arguments.enter_with.Given as goal

abbrev pub invariant-loop-r : goal.invariant-loop-r
invariant-loop-r l =
    with_each l.entry (drop l.r-index l.registers) (handed_in (drop l.r-index l.registers) l.depth l.s)
    ≡ with_each l.initial.entry l.registers (handed_in l.registers l.depth l.s)
