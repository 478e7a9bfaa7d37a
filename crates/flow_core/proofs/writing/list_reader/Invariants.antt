use Rattle.std.proofs.Common.{take, Contains}
use Rattle.flow_core.specs.Readers.{readers_of}
use Rattle.flow_core.specs.Writing.{KeepsReaders}
use Rattle.flow_core.proofs.writing.list_reader.Given as goal

abbrev pub invariant-loop-r : goal.invariant-loop-r
invariant-loop-r g l = record {
  keeps : KeepsReaders g.S.Key.Ord.cmp (g.S.System.rules l.system).reads l.fn.readers l.readers;
  lists : (r : _) → Contains (take l.r-index l.r-items) r → Contains (readers_of g.S.Key.Ord.cmp l.readers r) l.k;
}
