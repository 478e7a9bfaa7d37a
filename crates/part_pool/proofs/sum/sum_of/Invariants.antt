use Rattle.std.proofs.Common.{◌≡◌, [], take}
use Rattle.flow_system.specs.Facts.{fact_at}
use Rattle.flow_core.specs.Core.{IsPart}
use Rattle.part_pool.specs.Sum.{AllPending, IsSum}
use Rattle.part_pool.proofs.Sums.{PartsFit}
use Rattle.part_pool.proofs.sum.sum_of.Given as goal

abbrev pub invariant-loop-part : goal.invariant-loop-part
invariant-loop-part g l = record {
  sum : IsSum g.S.Key.Ord.cmp g.N.Name.rules (take l.part-index l.parts) (fact_at g.S.Key.Ord.cmp l.core.facts);
  fit : PartsFit g.S.Key.Ord.cmp g.N.Name.rules (take l.part-index l.parts);
  part : IsPart g.S.Key.Ord.cmp g.N.Name.rules l.core;
  pending : AllPending g.S.Key.Ord.cmp l.core;
  none_out : l.core.out ≡ [];
  limit : l.core.limit ≡ g.N.Name.limit;
}
