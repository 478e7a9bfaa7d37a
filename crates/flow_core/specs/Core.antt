-- The state of a core, and when it is good.
use Rattle.std.specs.Prelude.{◌≡◌, ℕ, ◌<◌, ◌≤◌, Bool, true, false, not, List, [], ◌++◌, ◌∷◌, Option, Some, None, IsSome, IsTrue, Contains, count_by}
use Rattle.std.specs.Prelude.{position, remove}
use Rattle.std.specs.Ordering.{is_eq}
use Rattle.std.specs.declared.cmp.Ordering.{Ordering}
use Rattle.flow_system.specs.Facts.{fact_at, KeysRise}
use Rattle.flow_system.specs.Rules.{Rules}
use Rattle.flow_system.specs.State.{AllFit, ContainsAll, IsBelow, HoldsDue, IsClosed}
use Rattle.flow_core.specs.Queue.{IsMarked, HasRoom}
use Rattle.flow_core.specs.Readers.{readers_of}

-- what a core holds
pub record CoreState (K V : Type 0) : Type 0 where
  -- the facts so far, in the keys' order
  pub facts : List (K × V)
  -- for each key with room whether it is pending
  pub marks : List (K × Bool)
  -- the keys of the claims that are out
  pub out : List K
  -- for each key the keys that read it
  pub readers : List (K × List K)
  -- how many of the facts' keys are counted
  pub count : ℕ
  -- how many may be
  pub limit : ℕ

-- the list without the key at this place, if there is one
abbrev pub without_place : {K : Type 0} → List K → Option ℕ → List K
without_place keys None = keys
without_place keys (Some place) = remove keys place

-- the list without the first of this key
abbrev pub strike : {K : Type 0} → (K → K → Ordering) → List K → K → List K
strike cmp out k = without_place out (position (λ q. is_eq (cmp k q)) out)

module _ {K V : Type 0} (m : Rules K V) where
  -- whether a fact is new or isn't at most what was there
  abbrev pub has_grown : Option V → Option V → Bool
  has_grown before None = false
  has_grown None (Some after) = true
  has_grown (Some before) (Some after) = not (m.at_most after before)

  -- how many of the facts' keys are counted
  abbrev pub counted_keys : List (K × V) → ℕ
  counted_keys facts = count_by (λ fact. m.counted fact.0) facts

  -- the new state is the least that contains the old one and the pieces
  pub record Joins (old : K → Option V) (pieces : List (K × V)) (new : K → Option V) : Type 0 where
    pub fit : AllFit m new
    pub below : IsBelow m old new
    pub contained : ContainsAll m new pieces
    pub least : (s : K → Option V) → AllFit m s → IsBelow m old s → ContainsAll m s pieces → IsBelow m new s

module _ {K V : Type 0} (cmp : K → K → Ordering) where
  -- the facts have the key
  abbrev pub IsKey : CoreState K V → K → Type 0
  IsKey s k = IsSome (fact_at cmp s.facts k)

  -- the key is pending
  abbrev pub IsPending : CoreState K V → K → Type 0
  IsPending s k = IsMarked cmp s.marks k

  -- nothing is pending, and no claim is out
  pub record IsIdle (s : CoreState K V) : Type 0 where
    pub nothing : (k : K) → IsPending s k → ⊥
    pub none_out : s.out ≡ []

module _ {K V : Type 0} (cmp : K → K → Ordering) (m : Rules K V) where
  -- how many facts have grown
  abbrev pub grown_count : List (K × V) → List (K × V) → ℕ
  grown_count old new = count_by (λ fact. has_grown m (fact_at cmp old fact.0) (Some fact.1)) new

  -- each key of the facts has room and is listed where it reads, and the count is theirs and within the limit
  pub record IsKept (s : CoreState K V) : Type 0 where
    pub rise : KeysRise cmp s.facts
    pub marks_rise : KeysRise cmp s.marks
    pub room : (k : K) → IsKey cmp s k → HasRoom cmp s.marks k
    pub listed : (k r : K) → IsKey cmp s k → Contains (m.reads k) r → Contains (readers_of cmp s.readers r) k
    pub read : (k r : K) → Contains (readers_of cmp s.readers r) k → Contains (m.reads k) r
    pub count : s.count ≡ counted_keys m s.facts
    pub within : s.count ≤ s.limit

  -- after a refusal all that a core shows is as before; it may have kept more room
  pub record IsUnchanged (old new : CoreState K V) : Type 0 where
    pub facts : new.facts ≡ old.facts
    pub pending : (k : K) → IsPending cmp new k → IsPending cmp old k
    pub stays : (k : K) → IsPending cmp old k → IsPending cmp new k
    pub out : new.out ≡ old.out
    pub limit : new.limit ≡ old.limit
    pub kept : IsKept old → IsKept new

  -- the facts fit and are due, and pending keys are keys of the facts
  pub record IsPart (s : CoreState K V) : Type 0 where
    pub fit : AllFit m (fact_at cmp s.facts)
    pub due : HoldsDue m (fact_at cmp s.facts)
    pub inside : (k : K) → IsPending cmp s k → IsKey cmp s k
    pub kept : IsKept s

  -- the key is pending, or has a claim that is out, or what it gives is contained in the facts
  pub data IsSettled (s : CoreState K V) (k : K) : Type 0 where
    pending : IsPending cmp s k → IsSettled s k
    out : Contains s.out k → IsSettled s k
    given : ContainsAll m (fact_at cmp s.facts) (m.gives k (fact_at cmp s.facts)) → IsSettled s k

  -- the facts fit, are due and contain the start pieces, pending keys are keys of the facts, and each key is settled
  pub record IsGood (s : CoreState K V) : Type 0 where
    pub part : IsPart s
    pub starts : ContainsAll m (fact_at cmp s.facts) m.starts
    pub settled : (k : K) → IsKey cmp s k → IsSettled s k

  -- nothing has shrunk, what was due is due, and pending keys are still keys
  pub record IsGrowth (old new : CoreState K V) : Type 0 where
    pub below : IsBelow m (fact_at cmp old.facts) (fact_at cmp new.facts)
    pub due : HoldsDue m (fact_at cmp old.facts) → HoldsDue m (fact_at cmp new.facts)
    pub inside : ((k : K) → IsPending cmp old k → IsKey cmp old k) → (k : K) → IsPending cmp new k → IsKey cmp new k
    pub limit : new.limit ≡ old.limit

  -- each state that contains the facts and the pieces has more counted keys than the limit
  abbrev pub PassesLimit : List (K × V) → List (K × V) → ℕ → Type 0
  PassesLimit facts pieces limit = (t : List (K × V)) → KeysRise cmp t → AllFit m (fact_at cmp t) → IsBelow m (fact_at cmp facts) (fact_at cmp t)
      → ContainsAll m (fact_at cmp t) pieces → limit < counted_keys m t

  -- each closed state has more counted keys than the limit
  abbrev pub IsOver : ℕ → Type 0
  IsOver limit = (t : List (K × V)) → KeysRise cmp t → IsClosed m (fact_at cmp t) → limit < counted_keys m t
