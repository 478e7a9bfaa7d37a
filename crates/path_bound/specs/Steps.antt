-- Steps along the edges of a graph, with what they cost.
use Rattle.std.specs.Prelude.{◌≡◌, ℕ, ◌<◌, List, [], length, map, slice_get, slice_index_or, Option, Some, None, Vec}
use Rattle.std.specs.declared.alloc.Global.{Global}
use Rattle.path_bound.specs.declared.stepping.Step.{Step}

-- a step to a node, with a cost for each node
abbrev pub step_to : (ℕ → ℕ) → ℕ → Step
step_to cost to = record { to = to; cost = cost to }

-- the steps to some nodes
abbrev pub moves : (ℕ → ℕ) → List ℕ → List Step
moves cost nodes = map (step_to cost) nodes

abbrev pub items_of : Option (Vec Step Global) → List Step
items_of None = []
items_of (Some row) = row.items

-- the steps from a node
abbrev pub steps_at : List (Vec Step Global) → ℕ → List Step
steps_at rows n = items_of (slice_get rows n)

-- each node has its steps, with a cost for each edge
pub record AreStepsOf (graph : List (List ℕ)) (cost : ℕ → ℕ → ℕ) (rows : List (Vec Step Global)) : Type 0 where
  pub count : length rows ≡ length graph
  pub row : (n : ℕ) → steps_at rows n ≡ moves (cost n) (slice_index_or graph n [])

-- each node has one step for each of its successors
pub record AreRows (graph : List (List ℕ)) (rows : List (Vec Step Global)) : Type 0 where
  pub count : length rows ≡ length graph
  pub sizes : (n : ℕ) → length (steps_at rows n) ≡ length (slice_index_or graph n [])

-- steps lead to nodes below a count
abbrev pub AreWithin : ℕ → List Step → Type 0
AreWithin count steps = (k : ℕ) (step : Step) → slice_get steps k ≡ Some step → step.to < count
