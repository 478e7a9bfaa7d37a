-- The steps of a merge: room and readers for new keys, then the facts themselves, then the marks.
use Rattle.std.specs.Prelude.{◌≡◌, Bool, true, List, Option, Some, None, IsSome, Contains, ◌⊎◌}
use Rattle.std.specs.declared.cmp.Ordering.{Ordering}
use Rattle.flow_system.specs.Facts.{fact_at, KeysRise}
use Rattle.flow_core.specs.Queue.{IsMarked, HasRoom}
use Rattle.flow_core.specs.Readers.{readers_of}

module _ {K : Type 0} (cmp : K → K → Ordering) where
  -- no reader is lost, and where each reader that was listed reads the key, so does each that is
  pub record KeepsReaders (reads : K → List K) (old new : List (K × List K)) : Type 0 where
    pub stays : (q j : K) → Contains (readers_of cmp old q) j → Contains (readers_of cmp new q) j
    pub read : ((q j : K) → Contains (readers_of cmp old q) j → Contains (reads j) q) → (q j : K) → Contains (readers_of cmp new q) j → Contains (reads j) q

  -- no mark is changed; there may be more room
  pub record KeepsMarks (old new : List (K × Bool)) : Type 0 where
    pub stays : (q : K) (b : Bool) → fact_at cmp old q ≡ Some b → fact_at cmp new q ≡ Some b
    pub only : (q : K) → IsMarked cmp new q → IsMarked cmp old q
    pub rise : KeysRise cmp new

  -- these keys are marked, where they are among the facts and have room, and no other mark is changed
  pub record MarksAll {V : Type 0} (facts : List (K × V)) (keys : List K) (old new : List (K × Bool)) : Type 0 where
    pub stays : (q : K) → IsMarked cmp old q → IsMarked cmp new q
    pub room : (q : K) → HasRoom cmp old q → HasRoom cmp new q
    pub marked : (q : K) → Contains keys q → IsSome (fact_at cmp facts q) → HasRoom cmp old q → IsMarked cmp new q
    pub only : (q : K) → IsMarked cmp new q → IsMarked cmp old q ⊎ (Contains keys q × IsSome (fact_at cmp facts q))
    pub rise : KeysRise cmp new

module _ {K V : Type 0} (cmp : K → K → Ordering) where
  -- a key that isn't among the facts has room, and is listed where it reads
  pub record IsReady (reads : K → List K) (facts : List (K × V)) (marks : List (K × Bool)) (readers : List (K × List K)) (k : K) : Type 0 where
    pub room : fact_at cmp facts k ≡ None → HasRoom cmp marks k
    pub listed : fact_at cmp facts k ≡ None → (r : K) → Contains (reads k) r → Contains (readers_of cmp readers r) k

  -- some risen facts of new keys have been moved to the facts
  pub record IsMoving (facts risen facts' risen' : List (K × V)) : Type 0 where
    pub kept : (q : K) → IsSome (fact_at cmp facts q) → (fact_at cmp facts' q ≡ fact_at cmp facts q) × (fact_at cmp risen' q ≡ fact_at cmp risen q)
    pub left : (q : K) → IsSome (fact_at cmp risen' q) → (fact_at cmp facts' q ≡ fact_at cmp facts q) × (fact_at cmp risen' q ≡ fact_at cmp risen q)
    pub apart : (q : K) → fact_at cmp risen q ≡ None → (fact_at cmp facts' q ≡ fact_at cmp facts q) × (fact_at cmp risen' q ≡ None)
    pub rise : KeysRise cmp facts'

  -- of these keys those that aren't risen are taken out of the facts
  pub record TakesBack (facts risen : List (K × V)) (keys : List K) (new : List (K × V)) : Type 0 where
    pub gone : (q : K) → Contains keys q → fact_at cmp risen q ≡ None → fact_at cmp new q ≡ None
    pub other : (q : K) → IsSome (fact_at cmp risen q) → fact_at cmp new q ≡ fact_at cmp facts q
    pub only : (q : K) → (fact_at cmp new q ≡ fact_at cmp facts q) ⊎ (Contains keys q × (fact_at cmp new q ≡ None))
