-- The pending keys: a mark beside each key with room, true where the key is pending, and a heap of the
-- pending keys. Contracts see the marks, in the keys' order.
use Rattle.std.specs.Prelude.{◌≡◌, ◌≢◌, ℕ, ◌≤◌, Bool, true, false, List, length, Option, Some, None, IsSome, is_some, if◌then◌else◌, sum_by, Contains, ◌⊎◌}
use Rattle.std.specs.Ordering.{is_eq, is_gt}
use Rattle.std.specs.Map.{values_of, set_value, lookup}
use Rattle.std.specs.BTreeMap.{is_at}
use Rattle.std.specs.BinaryHeap.{heap_items, heap_len, heap_capacity, IsHeap}
use Rattle.std.specs.declared.collections.binary_heap.BinaryHeap.{BinaryHeap}
use Rattle.std.specs.declared.cmp.Ordering.{Ordering}
use Rattle.std.specs.declared.cmp.Reverse.{Reverse}
use Rattle.std.specs.declared.alloc.Global.{Global}
use Rattle.flow_system.specs.Facts.{fact_at, KeysRise}

-- 1 for a mark that is set, else 0
abbrev pub tally : Bool → ℕ
tally true = 1
tally false = 0

-- 1 where there is a mark and it is set
abbrev pub tally_at : Option Bool → ℕ
tally_at None = 0
tally_at (Some b) = tally b

module _ {K : Type 0} (cmp : K → K → Ordering) where
  -- the key is pending
  abbrev pub IsMarked : List (K × Bool) → K → Type 0
  IsMarked marks k = fact_at cmp marks k ≡ Some true

  -- there is room to make the key pending
  abbrev pub HasRoom : List (K × Bool) → K → Type 0
  HasRoom marks k = IsSome (fact_at cmp marks k)

  -- the marks, with this one at a key that has room
  abbrev pub with_mark : List (K × Bool) → K → Bool → List (K × Bool)
  with_mark marks k b = set_value (is_at (cmp k)) marks b

  -- the key is pending, and no pending key is below it
  pub record IsLeast (marks : List (K × Bool)) (k : K) : Type 0 where
    pub marked : IsMarked marks k
    pub least : (q : K) → IsMarked marks q → is_gt (cmp k q) ≡ false

  -- the order of a heap whose top is its least key
  abbrev pub downward : Reverse K → Reverse K → Ordering
  downward x y = cmp y.0 x.0

  -- how often a key stands in the heap
  abbrev pub occurrences : K → List (Reverse K) → ℕ
  occurrences q items = sum_by (λ x. tally (is_eq (cmp q x.0))) items

  -- the heap has each pending key once and no other, and room for every key that has a mark
  pub record IsQueue (marks : List (K × Bool)) (heap : BinaryHeap (Reverse K) Global) : Type 0 where
    pub rise : KeysRise cmp marks
    pub order : IsHeap downward (heap_items heap)
    pub each : (q : K) → occurrences q (heap_items heap) ≡ tally_at (fact_at cmp marks q)
    pub total : heap_len heap ≡ sum_by tally (values_of marks)
    pub room : length marks ≤ heap_capacity heap

  -- there is room for the key, and nothing else has changed
  pub record KeepsRoom (old new : List (K × Bool)) (k : K) : Type 0 where
    pub here : HasRoom new k
    pub stays : (q : K) (b : Bool) → fact_at cmp old q ≡ Some b → fact_at cmp new q ≡ Some b
    pub only : (q : K) → IsMarked new q → IsMarked old q
    pub rise : KeysRise cmp new
