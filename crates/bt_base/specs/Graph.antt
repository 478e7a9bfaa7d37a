-- Graphs over the nodes 0, 1, .. as the list of each node's successors.
use Rattle.std.specs.Prelude.{◌≡◌, ◌==◌, ◌&&◌, ◌||◌, ℕ, ◌^◌, ◌<◌, Bool, true, List, [], length, slice_index_or, map, Vec}
use Rattle.std.specs.List.{list_any}
use Rattle.std.specs.declared.alloc.Global.{Global}
use Rattle.std.specs.List.Sorted.{IsStrictlyIncreasing}

-- whether a number is in a list
abbrev pub has : List ℕ → ℕ → Bool
has numbers n = list_any (λ m. n == m) numbers

-- whether an edge leads from a node to another
abbrev pub is_edge : List (List ℕ) → ℕ → ℕ → Bool
is_edge graph n m = has (slice_index_or graph n []) m

-- the same with one edge more
abbrev pub is_edge_with : List (List ℕ) → ℕ → ℕ → ℕ → ℕ → Bool
is_edge_with graph from to n m = is_edge graph n m || ((n == from) && (m == to))

-- the successors of each node rise, so that none stands twice, and are nodes
pub record IsGraph (graph : List (List ℕ)) : Type 0 where
  pub rising : (n : ℕ) → IsStrictlyIncreasing (slice_index_or graph n [])
  pub within : (n m : ℕ) → is_edge graph n m ≡ true → m < length graph
  pub counted : length graph < 2 ^ 32

-- the rows of a vector of vectors, as lists
abbrev pub rows_of : List (Vec ℕ Global) → List (List ℕ)
rows_of rows = map (λ row. row.items) rows
