-- Keys that are due, tests that are handed on from the start pieces, and systems of which one gives no more than another.
use Rattle.std.specs.Prelude.{◌≡◌, Bool, List, Option, Some, IsSome, IsTrue, Contains}
use Rattle.flow_system.specs.Rules.{Rules}
use Rattle.flow_system.specs.State.{AllFit, IsCovered, IsClosed}

module _ {K V : Type 0} where
  -- every closed state has the key
  abbrev pub IsDueKey : Rules K V → K → Type 0
  IsDueKey m k = (s : K → Option V) → IsClosed m s → IsSome (s k)

  -- the start pieces pass the test, a greater fact of the same key passes where the smaller does, and a key of the state
  -- whose fact passes gives pieces that pass
  pub record IsHandedOn (m : Rules K V) (s : K → Option V) (test : K → V → Bool) : Type 0 where
    pub starts : (k : K) (v : V) → Contains m.starts (k, v) → IsTrue (test k v)
    pub greater : (k : K) (v w : V) → IsTrue (m.fits k v) → IsTrue (m.fits k w) → IsTrue (m.at_most v w) → IsTrue (test k v) → IsTrue (test k w)
    pub given : (j : K) (u : V) → s j ≡ Some u → IsTrue (test j u) → (k : K) (v : V) → Contains (m.gives j s) (k, v) → IsTrue (test k v)

  -- the state has the piece's key, with a fact that is at least the piece's and passes the test
  pub record HasPassing (m : Rules K V) (s : K → Option V) (test : K → V → Bool) (k : K) (v : V) : Type 0 where
    pub fact : V
    pub found : s k ≡ Some fact
    pub above : IsTrue (m.at_most v fact)
    pub passes : IsTrue (test k fact)

  -- what fits in the second system fits in the first and is ordered alike, and over each state that fits in the second
  -- the first starts with no more and gives no more: the first has at least the thresholds of the second
  pub record IsFiner (m n : Rules K V) : Type 0 where
    pub fits : (k : K) (v : V) → IsTrue (n.fits k v) → IsTrue (m.fits k v)
    pub order : (v w : V) → IsTrue (n.at_most v w) → IsTrue (m.at_most v w)
    pub starts : IsCovered m m.starts n.starts
    pub gives : (k : K) (s : K → Option V) → AllFit n s → IsCovered m (m.gives k s) (n.gives k s)
