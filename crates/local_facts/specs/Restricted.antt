-- A system restricted to some of its keys, and the least map over these keys. Other facts are fixed: they stand beside each state.
use Rattle.std.specs.Prelude.{◌≡◌, Bool, false, ◌&&◌, List, Option, IsSome, is_some, IsTrue, Contains, if◌then◌else◌}
use Rattle.std.specs.List.{filter, list_any}
use Rattle.std.specs.List.Sorted.{IsStrictlySortedBy}
use Rattle.std.specs.Ordering.{is_eq}
use Rattle.std.specs.declared.cmp.Ordering.{Ordering}
use Rattle.flow_system.specs.Facts.{fact_at}
use Rattle.flow_system.specs.Rules.{Rules}
use Rattle.flow_system.specs.State.{AllFit, ContainsPiece, ContainsAll, IsBelow}

module _ {K : Type 0} (cmp : K → K → Ordering) where
  -- whether a key is listed
  abbrev pub is_listed : List K → K → Bool
  is_listed keys k = list_any (λ q. is_eq (cmp q k)) keys

module _ {K V : Type 0} (cmp : K → K → Ordering) where
  -- the state with the fixed facts beside it: at a kept key what the state has, at each other key what is fixed
  abbrev pub beside : List K → List (K × V) → (K → Option V) → K → Option V
  beside keep fixed s k = if is_listed cmp keep k then s k else fact_at cmp fixed k

  -- the pieces whose keys are kept
  abbrev pub kept_pieces : List K → List (K × V) → List (K × V)
  kept_pieces keep pieces = filter (λ piece. is_listed cmp keep piece.0) pieces

  -- a system restricted to the kept keys: it starts with these pieces; a key gives those pieces of kept keys that it
  -- gives over the state with the fixed facts beside it; it reads what it read; and facts fit kept keys alone
  abbrev pub restricted : Rules K V → List (K × V) → List K → List (K × V) → Rules K V
  restricted m starts keep fixed = record {
    starts = starts;
    reads = m.reads;
    gives = λ k s. kept_pieces keep (m.gives k (beside keep fixed s));
    join = m.join;
    at_most = m.at_most;
    counted = m.counted;
    fits = λ k v. is_listed cmp keep k && m.fits k v;
    rank = m.rank;
    top = m.top;
    most = m.most;
  }

module _ {K V : Type 0} (cmp : K → K → Ordering) (m : Rules K V) (first : List (K × V)) (keep : List K) (fixed : List (K × V)) where
  -- the kept keys rise, the start pieces are of kept keys, the fixed facts of others, and both fit their keys
  pub record IsRestriction : Type 0 where
    pub rise : IsStrictlySortedBy cmp keep
    pub starts_kept : (k : K) (v : V) → Contains first (k, v) → IsTrue (is_listed cmp keep k)
    pub starts_fit : (k : K) (v : V) → Contains first (k, v) → IsTrue (m.fits k v)
    pub apart : (k : K) → IsTrue (is_listed cmp keep k) → is_some (fact_at cmp fixed k) ≡ false
    pub fixed_fit : AllFit m (fact_at cmp fixed)

  -- a map over the kept keys that contains the start pieces, and of what each of its keys gives, with the fixed facts
  -- beside it, all pieces of kept keys
  pub record IsLocallyClosed (s : K → Option V) : Type 0 where
    pub kept : (k : K) → IsSome (s k) → IsTrue (is_listed cmp keep k)
    pub fit : AllFit m s
    pub starts : ContainsAll m s first
    pub given : (k : K) → IsSome (s k) → (j : K) (v : V) → Contains (m.gives k (beside cmp keep fixed s)) (j, v) → IsTrue (is_listed cmp keep j)
        → ContainsPiece m s j v

  -- the least such map
  pub record IsLeastLocal (s : K → Option V) : Type 0 where
    pub closed : IsLocallyClosed s
    pub least : (t : K → Option V) → IsLocallyClosed t → IsBelow m s t
