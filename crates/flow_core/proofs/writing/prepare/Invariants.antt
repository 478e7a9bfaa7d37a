use Rattle.std.proofs.Common.{take, Contains}
use Rattle.flow_core.specs.Writing.{KeepsReaders, KeepsMarks, IsReady}
use Rattle.flow_core.proofs.writing.prepare.Given as goal

abbrev pub invariant-loop-k : goal.invariant-loop-k
invariant-loop-k g l = record {
  keeps : KeepsReaders g.S.Key.Ord.cmp (g.S.System.rules l.system).reads l.fn.readers l.readers;
  marks : KeepsMarks g.S.Key.Ord.cmp l.fn.queue l.queue;
  ready : (k : _) → Contains (take l.k-index l.keys) k → IsReady g.S.Key.Ord.cmp (g.S.System.rules l.system).reads l.facts l.queue l.readers k;
}
