use Rattle.std.proofs.Common.{take}
use Rattle.flow_system.specs.Facts.{KeysRise}
use Rattle.flow_core.specs.Writing.{TakesBack}
use Rattle.flow_core.proofs.writing.take_back.Given as goal

abbrev pub invariant-loop-k : goal.invariant-loop-k
invariant-loop-k g l = record {
  back : TakesBack g.K.Ord.cmp l.fn.facts l.risen (take l.k-index l.keys) l.facts;
  rise : KeysRise g.K.Ord.cmp l.facts;
}
