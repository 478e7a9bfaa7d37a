-- Walks that never go back to a head, walks turned round, and what the beginning of a walk spends.
use Rattle.std.specs.Prelude.{◌≡◌, ℕ, ◌+◌, ◌≤◌, Bool, true, false, List, [], ◌∷◌, ◌++◌, reverse}
use Rattle.bt_base.specs.Graph.{has}
use Rattle.graph_laws.specs.Walk.{IsWalk, AreInside, end_of, Costs, cost_of}
use Rattle.graph_laws.specs.Loops.{Loops, AreLoops, is_back, IsForward, KeepsBounds, CostAtMost}
use Rattle.graph_laws.specs.Nest.{Nest, IsNest, loops_of, cut, IsReached, AreReached}

-- the graph with each edge turned round
abbrev pub turned : (ℕ → ℕ → Bool) → ℕ → ℕ → Bool
turned edge n m = edge m n

-- a walk turned round is a walk of the graph turned round
abbrev pub WalksTurn : Type 0
WalksTurn = (edge : ℕ → ℕ → Bool) (n m : ℕ) (between : List ℕ) → IsWalk edge n (between ++ m ∷ []) → IsWalk (turned edge) m (reverse between ++ n ∷ [])

-- an edge leads from a node into a list without going back to a head
pub record HasForwardNext (edge : ℕ → ℕ → Bool) (loops : Loops) (nodes : List ℕ) (n : ℕ) : Type 0 where
  pub next : ℕ
  pub leads : edge n next ≡ true
  pub forward : is_back loops n next ≡ false
  pub inside : has nodes next ≡ true

-- where there is a nest, a finite set in which each node has such an edge is empty
abbrev pub SetsHaveEnds : Type 0
SetsHaveEnds = (edge : ℕ → ℕ → Bool) (entry : ℕ) (nest : Nest) → IsNest edge entry nest
    → (nodes : List ℕ) → ((n : ℕ) → has nodes n ≡ true → HasForwardNext edge (loops_of nest) nodes n) → (n : ℕ) → has nodes n ≡ false

-- a walk that never goes back to a head leads from the entry to a node
pub record IsReachedForward (edge : ℕ → ℕ → Bool) (loops : Loops) (entry n : ℕ) : Type 0 where
  pub rest : List ℕ
  pub walk : IsWalk edge entry rest
  pub forward : IsForward loops entry rest
  pub ends : end_of entry rest ≡ n

-- what is reached is reached so
abbrev pub ReachedAreReachedForward : Type 0
ReachedAreReachedForward = (edge : ℕ → ℕ → Bool) (entry : ℕ) (loops : Loops) → AreLoops edge entry loops
    → (n : ℕ) → IsReached edge entry n → IsReachedForward edge loops entry n

-- a walk from a node of a body to its head stays in the body, if it takes no edge into an outer head
abbrev pub WalksBackStay : Type 0
WalksBackStay = (edge : ℕ → ℕ → Bool) (entry : ℕ) (nest : Nest) → IsNest edge entry nest
    → (h n : ℕ) (between : List ℕ) → nest.has h ≡ true → nest.body h n ≡ true → IsWalk (cut edge (nest.outer h)) n (between ++ h ∷ [])
    → AreInside (nest.body h) between

-- a turn of a head: a walk inside its body that never goes back to a head, and an edge back
pub record HasTurn (edge : ℕ → ℕ → Bool) (loops : Loops) (h : ℕ) : Type 0 where
  pub rest : List ℕ
  pub walk : IsWalk edge h rest
  pub inside : AreInside (loops.body h) rest
  pub forward : IsForward loops h rest
  pub back : edge (end_of h rest) h ≡ true

-- each head of a nest has a turn
abbrev pub HeadsHaveTurns : Type 0
HeadsHaveTurns = (edge : ℕ → ℕ → Bool) (entry : ℕ) (nest : Nest) → IsNest edge entry nest → AreReached edge entry
    → (h : ℕ) → nest.has h ≡ true → HasTurn edge (loops_of nest) h

-- the same heads, and for each the same body
pub record AreEqual (one two : Loops) : Type 0 where
  pub has : (h : ℕ) → one.has h ≡ two.has h
  pub body : (h n : ℕ) → one.has h ≡ true → one.body h n ≡ two.body h n

-- loops that are equal to loops are loops
abbrev pub EqualLoopsAreLoops : Type 0
EqualLoopsAreLoops = (edge : ℕ → ℕ → Bool) (entry : ℕ) (one two : Loops) → AreLoops edge entry one → AreEqual one two → AreLoops edge entry two

-- what a walk has spent when it comes to its last node: all its nodes but that one, and its edges
abbrev pub spent_of : Costs → ℕ → List ℕ → ℕ
spent_of costs n [] = 0
spent_of costs n (m ∷ rest) = costs.node n + costs.edge n m + spent_of costs m rest

-- what a walk and what follows it spend add up; a walk costs what it has spent and its last node
pub record SpentAddsUp : Type 0 where
  pub append : (costs : Costs) (n : ℕ) (one two : List ℕ) → spent_of costs n (one ++ two) ≡ spent_of costs n one + spent_of costs (end_of n one) two
  pub step : (costs : Costs) (n m : ℕ) (one : List ℕ)
      → spent_of costs n (one ++ m ∷ []) ≡ spent_of costs n one + (costs.node (end_of n one) + costs.edge (end_of n one) m)
  pub whole : (costs : Costs) (n : ℕ) (rest : List ℕ) → cost_of costs n rest ≡ spent_of costs n rest + costs.node (end_of n rest)

-- the beginning of a walk that keeps the head bounds keeps them, and has spent at most what no walk exceeds
abbrev pub PrefixesSpendLess : Type 0
PrefixesSpendLess = (edge : ℕ → ℕ → Bool) (n : ℕ) (loops : Loops) (bound : ℕ → ℕ) (costs : Costs) (most : ℕ) (one two : List ℕ)
    → CostAtMost edge n loops bound costs most
    → IsWalk edge n (one ++ two) → KeepsBounds loops bound (n ∷ (one ++ two)) → KeepsBounds loops bound (n ∷ one) × (spent_of costs n one ≤ most)
