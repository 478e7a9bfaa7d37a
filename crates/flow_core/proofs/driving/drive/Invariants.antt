use Rattle.std.proofs.Common.{◌≡◌, []}
use Rattle.flow_system.specs.Facts.{fact_at}
use Rattle.flow_system.specs.State.{IsBelow}
use Rattle.flow_core.specs.Core.{IsGood}
use Rattle.flow_core.proofs.driving.drive.Given as goal

abbrev pub invariant-loop-turn : goal.invariant-loop-turn
invariant-loop-turn g l = record {
  good : IsGood g.S.Key.Ord.cmp (g.S.System.rules l.system) l.core;
  none_out : l.core.out ≡ [];
  grows : IsBelow (g.S.System.rules l.system) (fact_at g.S.Key.Ord.cmp l.fn.core.facts) (fact_at g.S.Key.Ord.cmp l.core.facts);
  limit : l.core.limit ≡ l.fn.core.limit;
}
