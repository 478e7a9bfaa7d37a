-- Loops of a graph, each named by its head.
use Rattle.std.specs.Prelude.{◌≡◌, ◌≢◌, ◌&&◌, ℕ, ◌≤◌, Bool, true, false, List, [], ◌∷◌, ◌++◌}
use Rattle.graph_laws.specs.Walk.{IsWalk, AreInside, passes, Costs, cost_of}

-- which nodes are heads, and which nodes are in the body of a head
pub record Loops : Type 0 where
  pub has : ℕ → Bool
  pub body : ℕ → ℕ → Bool

-- Each head is in its body, and an edge into a body from outside goes to its head. The entry is in a body only
-- as its head. A body with the head of another loop holds all of that loop's body, which hasn't its head.
pub record AreLoops (edge : ℕ → ℕ → Bool) (entry : ℕ) (loops : Loops) : Type 0 where
  pub head : (h : ℕ) → loops.has h ≡ true → loops.body h h ≡ true
  pub entered : (h n m : ℕ) → loops.has h ≡ true → edge n m ≡ true → loops.body h n ≡ false → loops.body h m ≡ true → m ≡ h
  pub at_entry : (h : ℕ) → loops.has h ≡ true → loops.body h entry ≡ true → entry ≡ h
  pub within : (h k n : ℕ) → loops.has h ≡ true → loops.has k ≡ true → loops.body k h ≡ true → h ≢ k → loops.body h n ≡ true → loops.body k n ≡ true
  pub apart : (h k : ℕ) → loops.has h ≡ true → loops.has k ≡ true → loops.body k h ≡ true → h ≢ k → loops.body h k ≡ false

-- whether an edge leads from a body to its own head
abbrev pub is_back : Loops → ℕ → ℕ → Bool
is_back loops n m = loops.has m && loops.body m n

-- no step of a walk goes back to a head
abbrev pub IsForward : Loops → ℕ → List ℕ → Type 0
IsForward loops n [] = Unit {0}
IsForward loops n (m ∷ rest) = (is_back loops n m ≡ false) × IsForward loops m rest

-- Each stretch of a walk inside a body passes its head at most its bound of times: that is how often the head is
-- passed from one entry into the body to the next.
pub record KeepsBounds (loops : Loops) (bound : ℕ → ℕ) (walk : List ℕ) : Type 0 where
  pub kept : (h : ℕ) (before stretch after : List ℕ) → loops.has h ≡ true → before ++ (stretch ++ after) ≡ walk → AreInside (loops.body h) stretch
      → passes h stretch ≤ bound h

-- no walk from a node that keeps the head bounds costs more
abbrev pub CostAtMost : (ℕ → ℕ → Bool) → ℕ → Loops → (ℕ → ℕ) → Costs → ℕ → Type 0
CostAtMost edge n loops bound costs most =
    (rest : List ℕ) → IsWalk edge n rest → KeepsBounds loops bound (n ∷ rest) → cost_of costs n rest ≤ most

-- a walk from a node that keeps the head bounds costs so much
pub record IsAttained (edge : ℕ → ℕ → Bool) (n : ℕ) (loops : Loops) (bound : ℕ → ℕ) (costs : Costs) (cost : ℕ) : Type 0 where
  pub rest : List ℕ
  pub walk : IsWalk edge n rest
  pub keeps : KeepsBounds loops bound (n ∷ rest)
  pub spends : cost_of costs n rest ≡ cost

-- the greatest cost of all walks from a node that keep the head bounds
pub record IsGreatestCost (edge : ℕ → ℕ → Bool) (n : ℕ) (loops : Loops) (bound : ℕ → ℕ) (costs : Costs) (cost : ℕ) : Type 0 where
  pub most : CostAtMost edge n loops bound costs cost
  pub attained : IsAttained edge n loops bound costs cost

-- the edges between the nodes of a body
abbrev pub edges_inside : (ℕ → ℕ → Bool) → (ℕ → Bool) → ℕ → ℕ → Bool
edges_inside edge body n m = edge n m && (body n && body m)

-- a loop and the loops inside it, without those outside
abbrev pub loops_inside : Loops → ℕ → Loops
loops_inside loops h = record { has = λ k. loops.has k && loops.body h k; body = loops.body }
