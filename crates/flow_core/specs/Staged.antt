-- The facts that a merge is about to write, beside the facts so far.
use Rattle.std.specs.Prelude.{◌≡◌, ◌&&◌, Bool, true, not, List, Option, Some, None, is_some, IsSome, IsTrue, Contains, if◌then◌else◌}
use Rattle.std.specs.Ordering.{is_eq}
use Rattle.std.specs.declared.cmp.Ordering.{Ordering}
use Rattle.flow_system.specs.Facts.{fact_at, KeysRise}
use Rattle.flow_system.specs.Rules.{Rules}
use Rattle.flow_core.specs.Core.{Joins, has_grown}

-- the risen fact, or else the one that was there
abbrev pub over : {V : Type 0} → Option V → Option V → Option V
over None old = old
over (Some v) old = Some v

module _ {K V : Type 0} (cmp : K → K → Ordering) where
  -- the facts with the risen ones written over them, as a state
  abbrev pub written : List (K × V) → List (K × V) → K → Option V
  written facts risen k = over (fact_at cmp risen k) (fact_at cmp facts k)

-- the pieces of a list fit their keys
abbrev pub PiecesFit : {K V : Type 0} → Rules K V → List (K × V) → Type 0
PiecesFit {K} {V} m pieces = (k : K) (v : V) → Contains pieces (k, v) → IsTrue (m.fits k v)

module _ {K V : Type 0} (cmp : K → K → Ordering) (m : Rules K V) where
  -- whether a key is counted and not among the facts
  abbrev pub is_fresh_key : List (K × V) → K → Bool
  is_fresh_key facts k = m.counted k && not (is_some (fact_at cmp facts k))

  -- written over the facts, the risen ones join the pieces to them, and each of them has grown
  pub record IsStaged (facts : List (K × V)) (pieces : List (K × V)) (risen : List (K × V)) : Type 0 where
    pub joined : Joins m (fact_at cmp facts) pieces (written cmp facts risen)
    pub grown : (k : K) (v : V) → fact_at cmp risen k ≡ Some v → IsTrue (has_grown m (fact_at cmp facts k) (Some v))
    pub rise : KeysRise cmp risen

module _ {K V : Type 0} (cmp : K → K → Ordering) where
  -- exactly the facts at these keys
  pub record IsCopy (facts : List (K × V)) (keys : List K) (copies : List (K × V)) : Type 0 where
    pub same : (k : K) → Contains keys k → fact_at cmp copies k ≡ fact_at cmp facts k
    pub only : (k : K) → IsSome (fact_at cmp copies k) → Contains keys k

  -- the fact at the key, if there is one, is copied
  abbrev pub CopiesFact : List (K × V) → K → List (K × V) → List (K × V) → Type 0
  CopiesFact facts k old new = (q : K) → fact_at cmp new q ≡ (if is_eq (cmp k q) then over (fact_at cmp facts k) (fact_at cmp old q) else fact_at cmp old q)

  -- at each of these keys both have the same fact, or none
  abbrev pub AgreesAt : List (K × V) → List (K × V) → List K → Type 0
  AgreesAt copies facts keys = (k : K) → Contains keys k → fact_at cmp copies k ≡ fact_at cmp facts k
