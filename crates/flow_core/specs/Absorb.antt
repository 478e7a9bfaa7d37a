-- What the joining of pieces makes of a core: the part that a merge and a new core share.
use Rattle.std.specs.Prelude.{◌≡◌, ℕ, ◌<◌, ◌+◌, List, Contains, ◌⊎◌}
use Rattle.std.specs.declared.cmp.Ordering.{Ordering}
use Rattle.flow_system.specs.Facts.{fact_at}
use Rattle.flow_system.specs.Rules.{Rules}
use Rattle.flow_core.specs.Core.{CoreState, IsKey, IsPending, IsKept, Joins, grown_count}
use Rattle.flow_core.specs.Event.{ReadsGrown}

module _ {K V : Type 0} (cmp : K → K → Ordering) (m : Rules K V) where
  -- the pieces are joined to the facts, n of which grow, and exactly the keys that read what has grown are pending too
  pub record Absorbs (old : CoreState K V) (pieces : List (K × V)) (new : CoreState K V) (n : ℕ) : Type 0 where
    pub joined : Joins m (fact_at cmp old.facts) pieces (fact_at cmp new.facts)
    pub grown : n ≡ grown_count cmp m old.facts new.facts
    pub stays : (k : K) → IsPending cmp old k → IsPending cmp new k
    pub wakes : (k : K) → IsKey cmp new k → ReadsGrown cmp m old new k → IsPending cmp new k
    pub only : (k : K) → IsPending cmp new k → IsPending cmp old k ⊎ (IsKey cmp new k × ReadsGrown cmp m old new k)
    pub out : new.out ≡ old.out
    pub limit : new.limit ≡ old.limit
    pub kept : IsKept cmp m new
