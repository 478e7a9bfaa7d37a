-- Tests that are handed on from the start pieces along kept pieces.
use Rattle.std.specs.Prelude.{◌≡◌, Bool, List, Option, Some, IsTrue, Contains}
use Rattle.std.specs.declared.cmp.Ordering.{Ordering}
use Rattle.flow_system.specs.Rules.{Rules}
use Rattle.local_facts.specs.Restricted.{is_listed, beside}

-- the start pieces pass the test, a greater fact of the same key passes where the smaller does, and a key whose fact
-- passes gives, with the fixed facts beside the map, pieces of kept keys that pass
pub record IsHandedOnLocally {K V : Type 0} (cmp : K → K → Ordering) (m : Rules K V) (first : List (K × V)) (keep : List K) (fixed : List (K × V))
    (s : K → Option V) (test : K → V → Bool) : Type 0 where
  pub starts : (k : K) (v : V) → Contains first (k, v) → IsTrue (test k v)
  pub greater : (k : K) (v w : V) → IsTrue (m.fits k v) → IsTrue (m.fits k w) → IsTrue (m.at_most v w) → IsTrue (test k v) → IsTrue (test k w)
  pub given : (j : K) (u : V) → s j ≡ Some u → IsTrue (test j u) → (k : K) (v : V) → Contains (m.gives j (beside cmp keep fixed s)) (k, v)
      → IsTrue (is_listed cmp keep k) → IsTrue (test k v)
