-- Small graphs, worked out in full.
use Rattle.std.specs.Prelude.{◌≡◌, ℕ, zero, suc, ◌+◌, ◌-◌, ◌/◌, Bool, true, false, List, [], ◌∷◌}
use Rattle.graph_laws.specs.Collapsed.{Turns, IsExpanded}
use Rattle.graph_laws.specs.Walk.{Costs, cost_of, passes}
use Rattle.graph_laws.specs.Loops.{Loops, IsGreatestCost, edges_inside}
use Rattle.graph_laws.specs.Nest.{Nest, IsNest, loops_of}
use Rattle.graph_laws.specs.Counter.{Visit, Changes, nodes_of, IsCounted, TurnsRise}

-- each node costs one, and no edge anything
abbrev pub ones : Costs
ones = record { node = λ _. 1; edge = λ _ _. 0 }

-- a loop of two nodes, 0 and 1, with an exit from its head to 2
abbrev pub from_head : ℕ → Bool
from_head zero = false
from_head (suc zero) = true
from_head (suc (suc zero)) = true
from_head (suc (suc (suc n))) = false

abbrev pub is_zero : ℕ → Bool
is_zero zero = true
is_zero (suc n) = false

abbrev pub two_nodes : ℕ → ℕ → Bool
two_nodes zero m = from_head m
two_nodes (suc zero) m = is_zero m
two_nodes (suc (suc n)) m = false

abbrev pub below_two : ℕ → Bool
below_two zero = true
below_two (suc zero) = true
below_two (suc (suc n)) = false

abbrev pub two_body : ℕ → ℕ → Bool
two_body zero n = below_two n
two_body (suc h) n = false

abbrev pub two_loops : Loops
two_loops = record { has = is_zero; body = two_body }

-- with its head passed at most three times it costs six
abbrev pub LoopOfTwoCostsSix : Type 0
LoopOfTwoCostsSix = IsGreatestCost two_nodes 0 two_loops (λ _. 3) ones 6

-- two nested loops: 0, 1, 2 with head 0, and in it 1, 2 with head 1
abbrev pub is_one : ℕ → Bool
is_one zero = false
is_one (suc n) = is_zero n

abbrev pub is_two : ℕ → Bool
is_two zero = false
is_two (suc n) = is_one n

abbrev pub nested : ℕ → ℕ → Bool
nested zero m = is_one m
nested (suc zero) m = is_two m
nested (suc (suc zero)) m = below_two m
nested (suc (suc (suc n))) m = false

abbrev pub below_three : ℕ → Bool
below_three zero = true
below_three (suc n) = below_two n

abbrev pub one_or_two : ℕ → Bool
one_or_two zero = false
one_or_two (suc n) = below_two n

abbrev pub nested_body : ℕ → ℕ → Bool
nested_body zero n = below_three n
nested_body (suc zero) n = one_or_two n
nested_body (suc (suc h)) n = false

abbrev pub nested_outer : ℕ → List ℕ
nested_outer zero = []
nested_outer (suc h) = 0 ∷ []

abbrev pub nested_nest : Nest
nested_nest = record { has = below_two; outer = nested_outer; body = nested_body }

-- the outer head is passed at most twice, the inner at most three times
abbrev pub nested_bound : ℕ → ℕ
nested_bound zero = 2
nested_bound (suc h) = 3

abbrev pub NestedLoopsHaveANest : Type 0
NestedLoopsHaveANest = IsNest nested 0 nested_nest

-- twice the outer head, each time with three inner turns
abbrev pub NestedLoopsCostFourteen : Type 0
NestedLoopsCostFourteen = IsGreatestCost nested 0 (loops_of nested_nest) nested_bound ones 14

-- the nested loops' collapsed walk, 0 1 2, with the turns 0 1 2 and 1 2
abbrev pub nested_turn_walk : ℕ → List ℕ
nested_turn_walk zero = 1 ∷ 2 ∷ []
nested_turn_walk (suc h) = 2 ∷ []

abbrev pub nested_turn_cost : ℕ → ℕ
nested_turn_cost zero = 7
nested_turn_cost (suc h) = 2

abbrev pub nested_turns : Turns
nested_turns = record { walk = nested_turn_walk; cost = nested_turn_cost }

-- it stands for a walk of cost fourteen
pub record CollapsedWalkCostsFourteen : Type 0 where
  pub expanded : IsExpanded nested (loops_of nested_nest) nested_bound ones nested_turns 0 (1 ∷ 2 ∷ [])
  pub spends : cost_of ones 0 expanded.full ≡ 14

-- the inner loop's own cost: three turns
abbrev pub InnerLoopCostsSix : Type 0
InnerLoopCostsSix = IsGreatestCost (edges_inside nested one_or_two) 1 (loops_of nested_nest) nested_bound ones 6

-- a loop of 1 and 2 that 0 enters at both
abbrev pub two_ways : ℕ → ℕ → Bool
two_ways zero m = one_or_two m
two_ways (suc zero) m = is_two m
two_ways (suc (suc zero)) m = is_one m
two_ways (suc (suc (suc n))) m = false

abbrev pub TwoWaysHaveNoNest : Type 0
TwoWaysHaveNoNest = (nest : Nest) → IsNest two_ways 0 nest → ⊥

-- a counter that rises by one in each turn of the loop of two nodes, from 0 to 3 at its head
abbrev pub one_at_one : ℕ → ℕ
one_at_one zero = 0
one_at_one (suc zero) = 1
one_at_one (suc (suc n)) = 0

abbrev pub one_up : Changes
one_up = record { up = one_at_one; down = λ _. 0 }

abbrev pub visit : ℕ → ℕ → Visit
visit n c = record { node = n; content = c }

abbrev pub four_passes : List Visit
four_passes = visit 0 0 ∷ visit 1 0 ∷ visit 0 1 ∷ visit 1 1 ∷ visit 0 2 ∷ visit 1 2 ∷ visit 0 3 ∷ []

-- it is passed four times, as often as the bound allows
pub record CounterMeetsItsBound : Type 0 where
  pub counted : IsCounted two_nodes below_two 0 one_up 0 3 four_passes
  pub rises : TurnsRise two_nodes below_two 0 one_up 1
  pub passed : passes 0 (nodes_of four_passes) ≡ (3 - 0) / 1 + 1
