use Rattle.std.proofs.Common.{◌≡◌, take, Contains, IsSome, None}
use Rattle.flow_system.specs.Facts.{fact_at, KeysRise}
use Rattle.flow_core.specs.Staged.{written}
use Rattle.flow_core.proofs.writing.replace_all.Given as goal

abbrev pub invariant-loop-k : goal.invariant-loop-k
invariant-loop-k g l = record {
  rise : KeysRise g.K.Ord.cmp l.facts;
  whole : (q : _) → written g.K.Ord.cmp l.facts l.risen q ≡ written g.K.Ord.cmp l.fn.facts l.fn.risen q;
  there : (q : _) → IsSome (fact_at g.K.Ord.cmp l.risen q) → IsSome (fact_at g.K.Ord.cmp l.facts q);
  less : (q : _) → IsSome (fact_at g.K.Ord.cmp l.risen q) → IsSome (fact_at g.K.Ord.cmp l.fn.risen q);
  gone : (q : _) → Contains (take l.k-index l.keys) q → fact_at g.K.Ord.cmp l.risen q ≡ None;
}
