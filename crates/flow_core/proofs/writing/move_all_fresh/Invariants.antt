use Rattle.std.proofs.Common.{◌≡◌, take, Contains, IsSome}
use Rattle.flow_system.specs.Facts.{fact_at}
use Rattle.flow_core.specs.Staged.{written}
use Rattle.flow_core.specs.Writing.{IsMoving}
use Rattle.flow_core.proofs.writing.move_all_fresh.Given as goal

abbrev pub invariant-loop-k : goal.invariant-loop-k
invariant-loop-k g l = record {
  moving : IsMoving g.K.Ord.cmp l.fn.facts l.fn.risen l.facts l.risen;
  whole : (q : _) → written g.K.Ord.cmp l.facts l.risen q ≡ written g.K.Ord.cmp l.fn.facts l.fn.risen q;
  there : (q : _) → Contains (take l.k-index l.keys) q → IsSome (fact_at g.K.Ord.cmp l.risen q) → IsSome (fact_at g.K.Ord.cmp l.facts q);
}
