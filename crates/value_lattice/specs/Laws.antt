-- Laws of values.
use Rattle.std.specs.Prelude.{◌≡◌, ℕ, ◌↔◌, List, [], ◌∷◌, All, Contains}
use Rattle.value_lattice.specs.Value.{AtMost, IsValue, IsOver, IsLeast, IsJoin, IsBetween}
use Rattle.value_lattice.specs.declared.value.Value.{Value}

-- the order of values is one
pub record OrderIsOne : Type 0 where
  pub reflexive : (a : Value) → AtMost a a
  pub transitive : (a b c : Value) → AtMost a b → AtMost b c → AtMost a c
  pub antisymmetric : (a b : Value) → IsValue a → IsValue b → AtMost a b → AtMost b a → a ≡ b

-- the value is joined with each of a list, one after the other
abbrev pub JoinsTo : List ℕ → Value → List Value → Value → Type 0
JoinsTo t a [] v = v ≡ a
JoinsTo t a (b ∷ bs) v = (m : Value) × IsJoin t a b m × JoinsTo t m bs v

-- the same values joined in any order, and any number of times, come to the same value
abbrev pub OrdersOfJoinsAgree : Type 0
OrdersOfJoinsAgree =
    (t : List ℕ) (a b v u : Value) (firsts seconds : List Value) → All (IsOver t) (a ∷ firsts) → All (IsOver t) (b ∷ seconds)
    → ((x : Value) → Contains (a ∷ firsts) x ↔ Contains (b ∷ seconds) x)
    → JoinsTo t a firsts v → JoinsTo t b seconds u → v ≡ u

-- all thresholds of the one list are in the other
pub record AreMore (t more : List ℕ) : Type 0 where
  pub thresholds : (k : ℕ) → Contains t k → Contains more k

-- over more thresholds, and of less, a value is at most what it was
pub record MoreThresholdsRefine : Type 0 where
  pub cover : (t more list wider : List ℕ) (v u : Value) → AreMore t more → ((w : ℕ) → Contains list w → Contains wider w) → IsLeast t (Contains wider) v
      → IsLeast more (Contains list) u → AtMost u v
  pub span : (t more : List ℕ) (low high lower higher : ℕ) (v u : Value) → AreMore t more → ((w : ℕ) → IsBetween low high w → IsBetween lower higher w)
      → IsLeast t (IsBetween lower higher) v → IsLeast more (IsBetween low high) u → AtMost u v
  pub join : (t more : List ℕ) (a b c d v u : Value) → AreMore t more → AtMost c a → AtMost d b → IsJoin t a b v → IsJoin more c d u → AtMost u v
