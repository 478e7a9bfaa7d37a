-- The laws of scopes at small graphs, worked out in full: two nested loops, and a loop that is entered at two nodes.
use Rattle.std.specs.Prelude.{◌≡◌, ◌==◌, ◌&&◌, ℕ, true, not, List, [], ◌∷◌, length}
use Rattle.graph_laws.specs.Loops.{edges_inside}
use Rattle.graph_laws.specs.Nest.{SamePart, InScope, IsChain, Nest, IsNest}
use Rattle.graph_laws.specs.Scope.{HoldsParts, IsScope, AreFirstEntries}
use Rattle.graph_laws.specs.Worked.{nested, below_three, one_or_two, two_ways}

-- the inner body is part of the scope below the outer head, and has all of its parts: the inner loop is one of the graph of
-- these nodes, and the outer head isn't in it
pub record InnerBodyKeepsItsPart : Type 0 where
  pub holds : HoldsParts nested (0 ∷ []) one_or_two
  pub within : SamePart (edges_inside nested one_or_two) 1 2
  pub apart : SamePart (edges_inside nested one_or_two) 1 0 → ⊥

-- each edge leaves one of the three nodes, and these are the scope of no heads
pub record NestedLoopsAreAScope : Type 0 where
  pub leaves : (n m : ℕ) → nested n m ≡ true → below_three n ≡ true
  pub scope : IsScope nested [] below_three

-- the three nodes but the outer head are the scope below it
abbrev pub OuterBodyIsAScope : Type 0
OuterBodyIsAScope = IsScope nested (0 ∷ []) (λ n. below_three n && not (n == 0))

-- node 2 is in the scope below both heads, and of no other two
pub record LastNodeHasOneScope : Type 0 where
  pub chain : IsChain nested 0 (1 ∷ 0 ∷ [])
  pub scope : InScope nested (1 ∷ 0 ∷ []) 2
  pub only : (others : List ℕ) → IsChain nested 0 others → length others ≡ 2 → InScope nested others 2 → others ≡ 1 ∷ 0 ∷ []

-- round the inner head is the outer head, and nothing else
pub record InnerHeadHasOneChain : Type 0 where
  pub chain : IsChain nested 0 (1 ∷ 0 ∷ [])
  pub only : (others : List ℕ) → IsChain nested 0 (1 ∷ others) → others ≡ 0 ∷ []

-- the loop that is entered at 1 and at 2 has these as its first entries, and no others, and so there is no nest
pub record TwoWaysAreFirstEntries : Type 0 where
  pub entries : AreFirstEntries two_ways 0 1 2
  pub only : (x y : ℕ) → AreFirstEntries two_ways 0 x y → (x ≡ 1) × (y ≡ 2)
  pub none : (nest : Nest) → IsNest two_ways 0 nest → ⊥
