use Rattle.std.proofs.Common.{◌≡◌, ◌++◌, drop}
use Rattle.transfer_give.specs.Handed.{handed_in}
use Rattle.transfer_give.proofs.arguments.handed_in.Given as goal

abbrev pub invariant-loop-r : goal.invariant-loop-r
invariant-loop-r l = l.list.items ++ handed_in (drop l.r-index l.registers) l.depth l.s ≡ handed_in l.registers l.depth l.s
