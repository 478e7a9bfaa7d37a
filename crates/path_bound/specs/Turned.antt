-- Turns of loops, from the inside outward.
use Rattle.std.specs.Prelude.{◌≡◌, ℕ, suc, ◌+◌, ◌-◌, ◌*◌, ◌<◌, ◌⊎◌, true, false, List, ◌∷◌, length, map, take, slice_get, slice_index, Some, nat_lt}
use Rattle.bt_base.specs.Graph.{has, is_edge}
use Rattle.graph_laws.specs.Walk.{IsWalk, AreInside, end_of}
use Rattle.graph_laws.specs.Loops.{is_back, IsForward}
use Rattle.graph_laws.specs.Forward.{HasTurn}
use Rattle.loop_nest.specs.declared.natural_loop.Loop.{Loop}
use Rattle.path_bound.specs.declared.long_walk.Turn.{Turn}
use Rattle.path_bound.specs.declared.weights.Costs.{Costs as Weights}
use Rattle.path_bound.specs.Capped.{cap}
use Rattle.path_bound.specs.Choosing.{cost_of}
use Rattle.path_bound.specs.Exact.{Task, move_of, labels_by, laps_of}
use Rattle.path_bound.specs.LongWalk.{rest_of}
use Rattle.path_bound.specs.Places.{place_of, loops_in, bound_in, costs_in}
use Rattle.path_bound.specs.Ranked.{rank_in, IsOrder, IsForwardOrder}
use Rattle.path_bound.specs.Turning.{toll}

-- a graph with loops, bounds and costs
abbrev pub task_of : List (List ℕ) → List Loop → List ℕ → Weights → Task
task_of graph loops bounds costs = record { graph = graph; costs = costs_in costs; loops = loops_in loops; bound = bound_in loops bounds }

-- more steps than an order has ranks
abbrev pub size_of : List ℕ → ℕ
size_of order = suc (length order)

-- An order of all nodes: ranks fall along edges that don't lead back, and from a head to the nodes of its body.
pub record IsGround (t : Task) (order : List ℕ) : Type 0 where
  pub falls : (n m : ℕ) → is_edge t.graph n m ≡ true → is_back t.loops n m ≡ false → rank_in order m < rank_in order n
  pub inner : (h m : ℕ) → t.loops.has h ≡ true → t.loops.body h m ≡ true → (h ≡ m → ⊥) → rank_in order m < rank_in order h
  pub forward : (h : ℕ) (nodes : List ℕ) → t.loops.has h ≡ true → IsOrder (is_edge t.graph) t.loops (t.loops.body h) nodes
      → IsForwardOrder (is_edge t.graph) t.loops (t.loops.body h) nodes
  pub placed : (h : ℕ) → t.loops.has h ≡ true → has order h ≡ true
  pub once : (k : ℕ) → k < length order → has (take k order) (slice_index order k) ≡ false
  pub head : (h : ℕ) → t.loops.has h ≡ true → t.loops.body h h ≡ true
  pub turns : (h : ℕ) → t.loops.has h ≡ true → HasTurn (is_edge t.graph) t.loops h

-- a turn of a head: a collapsed walk inside its body, whose nodes rank below it, and what is told of it
pub record IsTurnOf (t : Task) (rank : ℕ → ℕ) (laps : ℕ → ℕ) (h : ℕ) (walk : List ℕ) (cost : ℕ) : Type 0 where
  pub walked : IsWalk (is_edge t.graph) h walk
  pub forward : IsForward t.loops h walk
  pub stays : AreInside (t.loops.body h) walk
  pub lower : AreInside (λ m. nat_lt (rank m) (rank h)) walk
  pub back : is_edge t.graph (end_of h walk) h ≡ true
  pub told : cost ≡ cap (toll t.costs laps h walk + move_of t (end_of h walk) h)
  pub lap : laps h ≡ cap ((t.bound h - 1) * cost)

-- the turn at a place is that of a head, and its cost is the greatest up to the limit
pub record IsTurnAt (t : Task) (order : List ℕ) (laps : ℕ → ℕ) (turns : List Turn) (place h : ℕ) : Type 0 where
  pub one : Turn
  pub at : slice_get turns place ≡ Some one
  pub begins : one.walk.items ≡ h ∷ rest_of one.walk.items
  pub turn : IsTurnOf t (rank_in order) laps h (rest_of one.walk.items) one.cost
  pub greatest : one.cost ≡ cap (cost_of (labels_by t (t.loops.body h) (Some h) (laps_of t (size_of order)) (size_of order) h))

-- the heads among the first nodes of an order have their turns, and other nodes have no laps
pub record AreTurnedUpTo (t : Task) (loops : List Loop) (order : List ℕ) (count : ℕ) (laps : List ℕ) (turns : List Turn) : Type 0 where
  pub heads : map (λ one. one.head) turns ≡ map (λ one. one.head) loops
  pub others : (n : ℕ) → (t.loops.has n ≡ false) ⊎ (has (take count order) n ≡ false) → slice_index laps n ≡ 0
  pub each : (h : ℕ) → t.loops.has h ≡ true → has (take count order) h ≡ true → IsTurnAt t order (slice_index laps) turns (place_of loops h) h
