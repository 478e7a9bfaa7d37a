-- The laws of walks at two nested loops, worked out in full.
use Rattle.std.specs.Prelude.{◌≡◌, ℕ, zero, suc, ◌+◌, ◌≤◌, Bool, List, [], ◌∷◌, ◌++◌}
use Rattle.graph_laws.specs.Forward.{turned, HasForwardNext, IsReachedForward, HasTurn, AreEqual, spent_of}
use Rattle.graph_laws.specs.Loops.{Loops, AreLoops, IsForward, KeepsBounds, IsAttained}
use Rattle.graph_laws.specs.Nest.{loops_of, cut}
use Rattle.graph_laws.specs.Walk.{IsWalk, AreInside, cost_of}
use Rattle.graph_laws.specs.Worked.{ones, nested, below_two, below_three, one_or_two, nested_body, nested_nest, nested_bound}

abbrev pub nested_loops : Loops
nested_loops = loops_of nested_nest

-- round the outer loop, and round it the other way
pub record RoundTheOtherWay : Type 0 where
  pub walk : IsWalk nested 0 (1 ∷ 2 ∷ 0 ∷ [])
  pub turned : IsWalk (turned nested) 0 (2 ∷ 1 ∷ 0 ∷ [])

abbrev pub three_nodes : List ℕ
three_nodes = 0 ∷ 1 ∷ 2 ∷ []

-- of the three nodes the first two have an edge on that goes back to no head; so the last has none
pub record LastNodeIsAnEnd : Type 0 where
  pub first : HasForwardNext nested nested_loops three_nodes 0
  pub second : HasForwardNext nested nested_loops three_nodes 1
  pub last : HasForwardNext nested nested_loops three_nodes 2 → ⊥

-- a walk that goes round the inner loop comes to node 2, and so does one that goes back to no head
pub record LastNodeIsReachedForward : Type 0 where
  pub walk : IsWalk nested 0 (1 ∷ 2 ∷ 1 ∷ 2 ∷ [])
  pub back : IsForward nested_loops 0 (1 ∷ 2 ∷ 1 ∷ 2 ∷ []) → ⊥
  pub forward : IsReachedForward nested nested_loops 0 2

-- a walk from node 2 to the inner head that doesn't take the edge into the outer head stays in the inner body
pub record InnerWalksStay : Type 0 where
  pub walk : IsWalk (cut nested (0 ∷ [])) 2 (1 ∷ 2 ∷ 1 ∷ [])
  pub inside : AreInside (nested_body 1) (1 ∷ 2 ∷ [])
  pub all : (between : List ℕ) → IsWalk (cut nested (0 ∷ [])) 2 (between ++ 1 ∷ []) → AreInside (nested_body 1) between

-- both heads have a turn
pub record BothHeadsHaveTurns : Type 0 where
  pub outer : HasTurn nested nested_loops 0
  pub inner : HasTurn nested nested_loops 1

-- bodies that are the nested loops' at their heads, and are something elsewhere too
abbrev pub other_body : ℕ → ℕ → Bool
other_body zero n = below_three n
other_body (suc h) n = one_or_two n

abbrev pub other_loops : Loops
other_loops = record { has = below_two; body = other_body }

-- they are the same loops
pub record OtherLoopsAreLoops : Type 0 where
  pub equal : AreEqual nested_loops other_loops
  pub loops : AreLoops nested 0 other_loops

-- where each node costs one, a walk through all three has spent two when it comes to the last, and costs three
pub record ThroughAllThree : Type 0 where
  pub parts : spent_of ones 0 ((1 ∷ []) ++ (2 ∷ [])) ≡ spent_of ones 0 (1 ∷ []) + spent_of ones 1 (2 ∷ [])
  pub spent : spent_of ones 0 (1 ∷ 2 ∷ []) ≡ 2
  pub whole : cost_of ones 0 (1 ∷ 2 ∷ []) ≡ spent_of ones 0 (1 ∷ 2 ∷ []) + 1

-- a walk that keeps the head bounds and costs fourteen: each of its beginnings keeps them, and has spent no more
pub record BeginningsSpendLess : Type 0 where
  pub whole : IsAttained nested 0 nested_loops nested_bound ones 14
  pub beginnings : (one two : List ℕ) → one ++ two ≡ whole.rest → KeepsBounds nested_loops nested_bound (0 ∷ one) × (spent_of ones 0 one ≤ 14)
