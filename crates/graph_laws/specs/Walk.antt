-- Graphs as tests of their edges, and walks, each as its first node and the list of the nodes after it.
use Rattle.std.specs.Prelude.{◌≡◌, ◌==◌, ℕ, ◌+◌, Bool, true, List, [], ◌∷◌, if◌then◌else◌}

-- an edge leads to each node from the one before it
abbrev pub IsWalk : (ℕ → ℕ → Bool) → ℕ → List ℕ → Type 0
IsWalk edge n [] = Unit {0}
IsWalk edge n (m ∷ rest) = (edge n m ≡ true) × IsWalk edge m rest

-- each of the nodes is in a body
abbrev pub AreInside : (ℕ → Bool) → List ℕ → Type 0
AreInside body [] = Unit {0}
AreInside body (n ∷ rest) = (body n ≡ true) × AreInside body rest

-- the node at which a walk ends
abbrev pub end_of : ℕ → List ℕ → ℕ
end_of n [] = n
end_of n (m ∷ rest) = end_of m rest

-- how often a node is passed
abbrev pub passes : ℕ → List ℕ → ℕ
passes head [] = 0
passes head (n ∷ rest) = (if n == head then 1 else 0) + passes head rest

-- the sum of a number for each node
abbrev pub total : (ℕ → ℕ) → List ℕ → ℕ
total number [] = 0
total number (n ∷ rest) = number n + total number rest

-- what each node and each edge costs
pub record Costs : Type 0 where
  pub node : ℕ → ℕ
  pub edge : ℕ → ℕ → ℕ

-- what a walk costs: all its nodes and edges
abbrev pub cost_of : Costs → ℕ → List ℕ → ℕ
cost_of costs n [] = costs.node n
cost_of costs n (m ∷ rest) = costs.node n + costs.edge n m + cost_of costs m rest
