-- Loops, bounds and costs as functions of a node.
use Rattle.std.specs.Prelude.{◌≡◌, ◌==◌, ◌&&◌, ℕ, suc, ◌+◌, ◌<◌, ◌≤◌, Bool, true, false, List, [], ◌∷◌, length, slice_get, slice_index}
use Rattle.std.specs.Prelude.{slice_index_or, Option, Some, None, if◌then◌else◌}
use Rattle.std.specs.Prelude.{nat_lt}
use Rattle.std.specs.List.Sorted.{IsStrictlyIncreasing}
use Rattle.bt_base.specs.Graph.{has}
use Rattle.graph_laws.specs.Walk.{Costs}
use Rattle.graph_laws.specs.Loops.{Loops}
use Rattle.loop_nest.specs.declared.natural_loop.Loop.{Loop}
use Rattle.loop_nest.specs.LoopNest.{is_head, HeadsRise}
use Rattle.path_bound.specs.declared.weights.Costs.{Costs as Weights}

-- the place of the first loop with a head; the number of loops where there is none
abbrev pub place_of : List Loop → ℕ → ℕ
place_of [] h = 0
place_of (one ∷ loops) h = if h == one.head then 0 else suc (place_of loops h)

-- whether a loop that is there holds a node
abbrev pub held : Option Loop → ℕ → Bool
held None n = false
held (Some one) n = has one.body.items n

-- the loops of a list, each with its body
abbrev pub loops_in : List Loop → Loops
loops_in loops = record { has = is_head loops; body = λ h n. held (slice_get loops (place_of loops h)) n }

-- the bound of a head: the number at the place of its loop
abbrev pub bound_in : List Loop → List ℕ → ℕ → ℕ
bound_in loops bounds h = slice_index bounds (place_of loops h)

-- what an edge with a cost says of another
abbrev pub extra_at : ℕ × ℕ × ℕ → ℕ → ℕ → ℕ
extra_at e n m = if (e.0 == n) && (e.1 == m) then e.2 else 0

-- what is said of an edge, in all
abbrev pub extra_of : List (ℕ × ℕ × ℕ) → ℕ → ℕ → ℕ
extra_of [] n m = 0
extra_of (e ∷ extra) n m = extra_at e n m + extra_of extra n m

-- what each node and each edge costs
abbrev pub costs_in : Weights → Costs
costs_in costs = record { node = λ n. slice_index costs.node.items n; edge = extra_of costs.extra.items }

-- each bound is at least 1, and there is one for each loop
pub record AreBounds (loops : List Loop) (bounds : List ℕ) : Type 0 where
  pub count : length bounds ≡ length loops
  pub one : (k : ℕ) → k < length bounds → 1 ≤ slice_index bounds k

-- the place of the loop of a head, if it is below a number
abbrev pub place_below : List Loop → ℕ → ℕ → Option ℕ
place_below loops count h = if nat_lt (place_of loops h) count then Some (place_of loops h) else None

-- for each node the place of the loop whose head it is
abbrev pub ArePlaces : List Loop → List (Option ℕ) → Type 0
ArePlaces loops places = (h : ℕ) → slice_index_or places h None ≡ place_below loops (length loops) h

-- loops over the nodes below a count: their heads rise, and so do the nodes of each
pub record AreLoopsBelow (count : ℕ) (loops : List Loop) : Type 0 where
  pub heads : (k : ℕ) (one : Loop) → slice_get loops k ≡ Some one → one.head < count
  pub rising : HeadsRise loops
  pub bodies : (k : ℕ) (one : Loop) → slice_get loops k ≡ Some one → IsStrictlyIncreasing one.body.items
  pub nodes : (k n : ℕ) (one : Loop) → slice_get loops k ≡ Some one → has one.body.items n ≡ true → n < count
