use Rattle.std.proofs.Common.{◌≡◌, take}
use Rattle.std.specs.List.{flat_map}
use Rattle.flow_core.specs.Readers.{readers_of}
use Rattle.flow_core.proofs.writing.gather.Given as goal

abbrev pub invariant-loop-k : goal.invariant-loop-k
invariant-loop-k g l = l.woken.items ≡ flat_map (λ k. readers_of g.K.Ord.cmp l.readers k) (take l.k-index l.keys)
