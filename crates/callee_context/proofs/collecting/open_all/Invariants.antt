use Rattle.std.proofs.Common.{◌-◌, length}
use Rattle.callee_context.specs.Program.{setting_in}
use Rattle.callee_context.specs.Worklist.{GrowsTo}
use Rattle.context_order.specs.Opened.{AreOpened}
use Rattle.callee_context.proofs.collecting.open_all.Given as goal

abbrev pub invariant-loop-alloc : goal.invariant-loop-alloc
invariant-loop-alloc l = record {
  grows : GrowsTo (setting_in l.fn.program) l.fn.found l.found;
  opened : AreOpened (setting_in l.fn.program) l.found l.all.items;
}

abbrev pub decreases-loop-alloc : goal.decreases-loop-alloc
decreases-loop-alloc l = 4096 - length l.all.items
