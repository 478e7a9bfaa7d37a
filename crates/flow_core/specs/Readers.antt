-- For each key the keys that read it.
use Rattle.std.specs.Prelude.{◌≡◌, List, [], ◌∷◌, ◌++◌, Option, Some, None, Contains, if◌then◌else◌, ◌⊎◌, map}
use Rattle.std.specs.declared.vec.Vec.{Vec}
use Rattle.std.specs.Ordering.{is_eq}
use Rattle.std.specs.declared.cmp.Ordering.{Ordering}
use Rattle.std.specs.declared.alloc.Global.{Global}
use Rattle.flow_system.specs.Facts.{fact_at, KeysRise}

-- the list that is there, or none
abbrev pub list_or_none : {K : Type 0} → Option (List K) → List K
list_or_none None = []
list_or_none (Some keys) = keys

-- the entries, with what each list holds
abbrev pub lists_of : {K : Type 0} → List (K × Vec K Global) → List (K × List K)
lists_of {K} entries = map {B = K × List K} (λ (e : K × Vec K Global). (e.0, e.1.items)) entries

module _ {K : Type 0} (cmp : K → K → Ordering) where
  -- the keys listed as readers of a key
  abbrev pub readers_of : List (K × List K) → K → List K
  readers_of readers k = list_or_none (fact_at cmp readers k)

  -- at the key one reader more, and elsewhere the same
  abbrev pub AddsReader : List (K × List K) → List (K × List K) → K → K → Type 0
  AddsReader old new k reader = (q : K) → readers_of new q ≡ (if is_eq (cmp k q) then readers_of old k ++ reader ∷ [] else readers_of old q)

  -- each key has the readers that it had
  abbrev pub SameReaders : List (K × List K) → List (K × List K) → Type 0
  SameReaders old new = (q : K) → readers_of new q ≡ readers_of old q

  -- the reader is listed at each of these keys, what was listed stays, and nothing else is listed
  pub record ListsReader (old new : List (K × List K)) (read : List K) (reader : K) : Type 0 where
    pub stays : (q j : K) → Contains (readers_of old q) j → Contains (readers_of new q) j
    pub listed : (q : K) → Contains read q → Contains (readers_of new q) reader
    pub only : (q j : K) → Contains (readers_of new q) j → Contains (readers_of old q) j ⊎ (Contains read q × (j ≡ reader))
