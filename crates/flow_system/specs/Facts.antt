-- A finite map from keys to facts, seen as the list of its entries in the keys' order.
use Rattle.std.specs.Prelude.{◌≡◌, ℕ, Bool, false, List, Option, Some, IsSome, if◌then◌else◌}
use Rattle.std.specs.declared.cmp.Ordering.{Ordering}
use Rattle.std.specs.Map.{lookup, keys_of}
use Rattle.std.specs.BTreeMap.{is_at}
use Rattle.std.specs.List.Sorted.{IsStrictlySortedBy}
use Rattle.std.specs.Ordering.{is_eq}

module _ {K V : Type 0} (cmp : K → K → Ordering) where
  -- the fact at a key; with the key left out, the entries as a state
  abbrev pub fact_at : List (K × V) → K → Option V
  fact_at facts k = lookup (is_at (cmp k)) facts

  -- the keys rise
  abbrev pub KeysRise : List (K × V) → Type 0
  KeysRise facts = IsStrictlySortedBy cmp (keys_of facts)

  -- the new entries have this at the key, and at each other key what the old ones have
  abbrev pub Writes : List (K × V) → List (K × V) → K → Option V → Type 0
  Writes old new k fact = (q : K) → fact_at new q ≡ (if is_eq (cmp k q) then fact else fact_at old q)
