-- What the greatest cost of the walks through a graph says, and what a refusal says.
use Rattle.std.specs.Prelude.{◌≡◌, ◌≢◌, ℕ, ◌+◌, ◌<◌, ◌≤◌, ◌⊎◌, true, Bool, List, [], ◌∷◌, Option, Some, None, map, slice_get}
use Rattle.graph_laws.specs.Walk.{Costs, IsWalk, end_of}
use Rattle.graph_laws.specs.Loops.{Loops, IsForward, IsGreatestCost, edges_inside}
use Rattle.graph_laws.specs.Collapsed.{Turns, AreTurns, further_cost, steps_cost}
use Rattle.loop_nest.specs.declared.natural_loop.Loop.{Loop}
use Rattle.path_bound.specs.declared.long_walk.LongWalk.{LongWalk}
use Rattle.path_bound.specs.declared.long_walk.Turn.{Turn}
use Rattle.path_bound.specs.declared.refusal.PathRefusal.{PathRefusal}
use Rattle.path_bound.specs.declared.refusal.PathRefusal.TheVariants as refusal
use Rattle.path_bound.specs.declared.weights.Costs.{Costs as Weights}
use Rattle.path_bound.specs.Capped.{limit, cap}
use Rattle.path_bound.specs.Places.{place_of, loops_in, bound_in, costs_in}

-- the nodes of a walk after the first
abbrev pub rest_of : List ℕ → List ℕ
rest_of [] = []
rest_of (n ∷ rest) = rest

abbrev pub turn_walk : Option Turn → List ℕ
turn_walk None = []
turn_walk (Some one) = rest_of one.walk.items

-- the walk of each head's turn after the head, and a cost for each head
abbrev pub turns_in : List Loop → List Turn → (ℕ → ℕ) → Turns
turns_in loops turns full = record { walk = λ h. turn_walk (slice_get turns (place_of loops h)); cost = full }

-- a turn is told: its walk begins at its head, and its cost is said up to the limit
pub record IsTold (full : ℕ → ℕ) (one : Turn) : Type 0 where
  pub rest : List ℕ
  pub begins : one.walk.items ≡ one.head ∷ rest
  pub cost : one.cost ≡ cap (full one.head)

-- Turns for the loops of a list, in their order: collapsed walks inside the bodies, whose costs are told up to the limit.
pub record AreTold (edge : ℕ → ℕ → Bool) (loops : List Loop) (bound : ℕ → ℕ) (costs : Costs) (list : List Turn) (full : ℕ → ℕ) : Type 0 where
  pub heads : map (λ one. one.head) list ≡ map (λ one. one.head) loops
  pub each : (k : ℕ) (one : Turn) → slice_get list k ≡ Some one → IsTold full one
  pub rank : ℕ → ℕ
  pub turns : AreTurns edge (loops_in loops) bound costs (turns_in loops list full) rank

-- A cost is the greatest of all walks from the entry that keep the bounds, with what each walk costs at its start. The
-- walk is a collapsed one with its turns, and the walk that it stands for costs so much.
pub record IsLongest (edge : ℕ → ℕ → Bool) (entry : ℕ) (loops : List Loop) (bounds : List ℕ) (costs : Weights) (long : LongWalk) : Type 0 where
  pub greatest : ℕ
  pub is : IsGreatestCost edge entry (loops_in loops) (bound_in loops bounds) (costs_in costs) greatest
  pub cost : long.cost ≡ costs.start + greatest
  pub fits : long.cost < limit
  pub full : ℕ → ℕ
  pub told : AreTold edge loops (bound_in loops bounds) (costs_in costs) long.turns.items full
  pub rest : List ℕ
  pub begins : long.walk.items ≡ entry ∷ rest
  pub walk : IsWalk edge entry rest
  pub forward : IsForward (loops_in loops) entry rest
  pub spends : greatest ≡ further_cost (loops_in loops) (bound_in loops bounds) (turns_in loops long.turns.items full) entry
      + (steps_cost (loops_in loops) (bound_in loops bounds) (costs_in costs) (turns_in loops long.turns.items full) entry rest
      + (costs_in costs).node (end_of entry rest))

-- a loop's own greatest cost is more than can be told, and that of no loop inside is
pub record IsBlamed (loops : Loops) (own : ℕ → ℕ) (h : ℕ) : Type 0 where
  pub head : loops.has h ≡ true
  pub large : limit ≤ own h
  pub inner : (k : ℕ) → loops.has k ≡ true → loops.body h k ≡ true → k ≢ h → own k < limit

-- a node is the least head of such a loop, or the entry where there is none
abbrev pub IsNamed : Loops → (ℕ → ℕ) → ℕ → ℕ → Type 0
IsNamed loops own entry node =
    (IsBlamed loops own node × ((h : ℕ) → IsBlamed loops own h → node ≤ h)) ⊎ ((node ≡ entry) × ((h : ℕ) → IsBlamed loops own h → ⊥))

-- the greatest cost is more than can be told, and a node is named
pub record IsTooLarge (edge : ℕ → ℕ → Bool) (entry : ℕ) (loops : List Loop) (bounds : List ℕ) (costs : Weights) (node : ℕ) : Type 0 where
  pub greatest : ℕ
  pub is : IsGreatestCost edge entry (loops_in loops) (bound_in loops bounds) (costs_in costs) greatest
  pub large : limit ≤ costs.start + greatest
  pub own : ℕ → ℕ
  pub owns : (h : ℕ) → (loops_in loops).has h ≡ true
      → IsGreatestCost (edges_inside edge ((loops_in loops).body h)) h (loops_in loops) (bound_in loops bounds) (costs_in costs) (own h)
  pub named : IsNamed (loops_in loops) own entry node

-- a refusal says that the greatest cost is more than can be told, or is for want of memory
abbrev pub IsRefusal : (ℕ → ℕ → Bool) → ℕ → List Loop → List ℕ → Weights → PathRefusal → Type 0
IsRefusal edge entry loops bounds costs (refusal.TooLarge node) = IsTooLarge edge entry loops bounds costs node
IsRefusal edge entry loops bounds costs refusal.Want = Unit {0}
