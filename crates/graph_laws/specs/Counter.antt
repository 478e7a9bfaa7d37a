-- Counters: what a cell holds along a walk, and how often a head is passed where each turn changes it.
use Rattle.std.specs.Prelude.{◌≡◌, ◌==◌, ℕ, ◌+◌, ◌-◌, ◌/◌, ◌≤◌, Bool, true, false, List, [], ◌∷◌, ◌++◌, map, ◌≢◌, ◌<◌}
use Rattle.graph_laws.specs.Loops.{Loops, AreLoops, is_back}
use Rattle.graph_laws.specs.Walk.{IsWalk, AreInside, passes, total}

-- a node of a walk, and what the cell holds there
pub record Visit : Type 0 where
  pub node : ℕ
  pub content : ℕ

-- how much each node adds to the cell and takes from it
pub record Changes : Type 0 where
  pub up : ℕ → ℕ
  pub down : ℕ → ℕ

-- each step from a node changes the cell by exactly what the node adds and takes
abbrev pub AreCounted : Changes → List Visit → Type 0
AreCounted changes [] = Unit {0}
AreCounted changes (v ∷ []) = Unit {0}
AreCounted changes (v ∷ w ∷ rest) = (w.content + changes.down v.node ≡ v.content + changes.up v.node) × AreCounted changes (w ∷ rest)

-- the nodes of a list are a walk
abbrev pub AreWalk : (ℕ → ℕ → Bool) → List ℕ → Type 0
AreWalk edge [] = Unit {0}
AreWalk edge (n ∷ rest) = IsWalk edge n rest

-- where the head is visited the cell holds a number of a range
abbrev pub AreWithin : ℕ → ℕ → ℕ → List Visit → Type 0
AreWithin head lo hi [] = Unit {0}
AreWithin head lo hi (v ∷ rest) = (v.node ≡ head → (lo ≤ v.content) × (v.content ≤ hi)) × AreWithin head lo hi rest

abbrev pub nodes_of : List Visit → List ℕ
nodes_of visits = map (λ v. v.node) visits

-- A turn of a loop: from its head through the body back to the head, which is met only at its two ends. These
-- are the nodes between.
pub record IsTurn (edge : ℕ → ℕ → Bool) (body : ℕ → Bool) (head : ℕ) (between : List ℕ) : Type 0 where
  pub walk : IsWalk edge head (between ++ head ∷ [])
  pub inside : AreInside body between
  pub once : passes head between ≡ 0

-- what the nodes of a turn but the last add and take
abbrev pub turn_up : Changes → ℕ → List ℕ → ℕ
turn_up changes head between = total changes.up (head ∷ between)

abbrev pub turn_down : Changes → ℕ → List ℕ → ℕ
turn_down changes head between = total changes.down (head ∷ between)

-- the sum of each turn is at least the step
abbrev pub TurnsRise : (ℕ → ℕ → Bool) → (ℕ → Bool) → ℕ → Changes → ℕ → Type 0
TurnsRise edge body head changes step = (between : List ℕ) → IsTurn edge body head between
    → turn_down changes head between + step ≤ turn_up changes head between

-- the sum of each turn is at most the negative step
abbrev pub TurnsFall : (ℕ → ℕ → Bool) → (ℕ → Bool) → ℕ → Changes → ℕ → Type 0
TurnsFall edge body head changes step = (between : List ℕ) → IsTurn edge body head between
    → turn_up changes head between + step ≤ turn_down changes head between

-- a stretch of a walk inside a body, along which a cell counts
pub record IsCounted (edge : ℕ → ℕ → Bool) (body : ℕ → Bool) (head : ℕ) (changes : Changes) (lo hi : ℕ) (stretch : List Visit) : Type 0 where
  pub walk : AreWalk edge (nodes_of stretch)
  pub inside : AreInside body (nodes_of stretch)
  pub counted : AreCounted changes stretch
  pub within : AreWithin head lo hi stretch

-- a counter whose turns all rise, or all fall, by a step bounds how often the head is passed
abbrev pub CounterBoundsPasses : Type 0
CounterBoundsPasses = (edge : ℕ → ℕ → Bool) (body : ℕ → Bool) (head : ℕ) (changes : Changes) (lo hi step : ℕ) (stretch : List Visit)
    → 1 ≤ step → IsCounted edge body head changes lo hi stretch → TurnsRise edge body head changes step → passes head (nodes_of stretch) ≤ (hi - lo) / step + 1

abbrev pub FallingCounterBoundsPasses : Type 0
FallingCounterBoundsPasses = (edge : ℕ → ℕ → Bool) (body : ℕ → Bool) (head : ℕ) (changes : Changes) (lo hi step : ℕ) (stretch : List Visit)
    → 1 ≤ step → IsCounted edge body head changes lo hi stretch → TurnsFall edge body head changes step → passes head (nodes_of stretch) ≤ (hi - lo) / step + 1

-- Labels of sums, each counted from a zero: from the head's on, an edge inside the body leads to a label that is at
-- most the sum so far, and one back to the head ends a sum of at least the step.
pub record AreRisingSums (edge : ℕ → ℕ → Bool) (body : ℕ → Bool) (head : ℕ) (changes : Changes) (step : ℕ) (label : ℕ → ℕ) : Type 0 where
  pub on : (n m : ℕ) → body n ≡ true → body m ≡ true → edge n m ≡ true → (m == head) ≡ false → label m + changes.down n ≤ label n + changes.up n
  pub end : (n : ℕ) → body n ≡ true → edge n head ≡ true → label head + step + changes.down n ≤ label n + changes.up n

-- The same downward: a label is at least the sum so far, and the sum of a turn at most the negative step.
pub record AreFallingSums (edge : ℕ → ℕ → Bool) (body : ℕ → Bool) (head : ℕ) (changes : Changes) (step : ℕ) (label : ℕ → ℕ) : Type 0 where
  pub on : (n m : ℕ) → body n ≡ true → body m ≡ true → edge n m ≡ true → (m == head) ≡ false → label n + changes.up n ≤ label m + changes.down n
  pub end : (n : ℕ) → body n ≡ true → edge n head ≡ true → label n + changes.up n + step ≤ label head + changes.down n

-- labels of sums bound the sum of each turn
abbrev pub RisingSumsBoundTurns : Type 0
RisingSumsBoundTurns = (edge : ℕ → ℕ → Bool) (body : ℕ → Bool) (head : ℕ) (changes : Changes) (step : ℕ) (label : ℕ → ℕ)
    → body head ≡ true → AreRisingSums edge body head changes step label → TurnsRise edge body head changes step

abbrev pub FallingSumsBoundTurns : Type 0
FallingSumsBoundTurns = (edge : ℕ → ℕ → Bool) (body : ℕ → Bool) (head : ℕ) (changes : Changes) (step : ℕ) (label : ℕ → ℕ)
    → body head ≡ true → AreFallingSums edge body head changes step label → TurnsFall edge body head changes step

-- a label that is the sum which one edge from a node of smaller rank gives
pub record IsSumFrom (edge : ℕ → ℕ → Bool) (loops : Loops) (head : ℕ) (changes : Changes) (label : ℕ → ℕ) (rank : ℕ → ℕ) (n : ℕ) : Type 0 where
  pub from : ℕ
  pub inside : loops.body head from ≡ true
  pub leads : edge from n ≡ true
  pub forward : is_back loops from n ≡ false
  pub lower : rank from < rank n
  pub is : label n + changes.down from ≡ label from + changes.up from

-- each label in a body but the head's is such a sum
abbrev pub AreChosenSums : (ℕ → ℕ → Bool) → Loops → ℕ → Changes → (ℕ → ℕ) → (ℕ → ℕ) → Type 0
AreChosenSums edge loops head changes label rank =
    (n : ℕ) → loops.body head n ≡ true → (n == head) ≡ false → IsSumFrom edge loops head changes label rank n

-- a turn that ends by the edge from a node and has the sum that the label says
pub record HasTurn (edge : ℕ → ℕ → Bool) (body : ℕ → Bool) (head : ℕ) (changes : Changes) (label : ℕ → ℕ) (n : ℕ) : Type 0 where
  pub between : List ℕ
  pub turn : IsTurn edge body head between
  pub sum : label n + changes.up n + turn_down changes head between ≡ label head + changes.down n + turn_up changes head between

-- chosen labels of sums are sums of turns, so that the least of them is the least sum
abbrev pub ChosenSumsAreAttained : Type 0
ChosenSumsAreAttained = (edge : ℕ → ℕ → Bool) (loops : Loops) (head : ℕ) (changes : Changes) (label : ℕ → ℕ) (rank : ℕ → ℕ)
    → loops.body head head ≡ true → AreChosenSums edge loops head changes label rank
    → (n : ℕ) → loops.body head n ≡ true → edge n head ≡ true → HasTurn edge (loops.body head) head changes label n

-- no node of an inner loop changes the cell
abbrev pub InnerLoopsKeep : Loops → ℕ → Changes → Type 0
InnerLoopsKeep loops head changes = (k n : ℕ) → loops.has k ≡ true → loops.body head k ≡ true → head ≢ k → loops.body k n ≡ true → changes.up n ≡ changes.down n

-- then edges back to inner heads ask nothing more of chosen labels
abbrev pub ForwardSumsRise : Type 0
ForwardSumsRise = (edge : ℕ → ℕ → Bool) (entry : ℕ) (loops : Loops) (head : ℕ) (changes : Changes) (step : ℕ) (label : ℕ → ℕ) (rank : ℕ → ℕ)
    → AreLoops edge entry loops → loops.has head ≡ true → InnerLoopsKeep loops head changes → AreChosenSums edge loops head changes label rank
    → ((n m : ℕ) → loops.body head n ≡ true → loops.body head m ≡ true → edge n m ≡ true → is_back loops n m ≡ false
    → label m + changes.down n ≤ label n + changes.up n)
    → ((n : ℕ) → loops.body head n ≡ true → edge n head ≡ true → label head + step + changes.down n ≤ label n + changes.up n)
    → AreRisingSums edge (loops.body head) head changes step label

abbrev pub ForwardSumsFall : Type 0
ForwardSumsFall = (edge : ℕ → ℕ → Bool) (entry : ℕ) (loops : Loops) (head : ℕ) (changes : Changes) (step : ℕ) (label : ℕ → ℕ) (rank : ℕ → ℕ)
    → AreLoops edge entry loops → loops.has head ≡ true → InnerLoopsKeep loops head changes → AreChosenSums edge loops head changes label rank
    → ((n m : ℕ) → loops.body head n ≡ true → loops.body head m ≡ true → edge n m ≡ true → is_back loops n m ≡ false
    → label n + changes.up n ≤ label m + changes.down n)
    → ((n : ℕ) → loops.body head n ≡ true → edge n head ≡ true → label n + changes.up n + step ≤ label head + changes.down n)
    → AreFallingSums edge (loops.body head) head changes step label
