use Rattle.std.proofs.Common.{take}
use Rattle.flow_core.specs.Writing.{MarksAll}
use Rattle.flow_core.proofs.writing.mark_all.Given as goal

abbrev pub invariant-loop-k : goal.invariant-loop-k
invariant-loop-k g l = MarksAll g.K.Ord.cmp l.facts (take l.k-index l.keys) l.fn.queue l.queue
