-- Collapsed walks: walks that never go back to a head, with one turn for each loop, and the walks that they stand for.
use Rattle.std.specs.Prelude.{◌≡◌, ℕ, zero, suc, ◌+◌, ◌-◌, ◌*◌, ◌<◌, ◌≤◌, Bool, true, false, List, [], ◌∷◌, ◌++◌, if◌then◌else◌}
use Rattle.graph_laws.specs.Walk.{IsWalk, AreInside, end_of, Costs, cost_of}
use Rattle.graph_laws.specs.Loops.{Loops, AreLoops, KeepsBounds, IsForward}

-- for each head a collapsed turn, as the nodes between two passes of the head, and what the whole turn costs
pub record Turns : Type 0 where
  pub walk : ℕ → List ℕ
  pub cost : ℕ → ℕ

-- what the passes of a head after the first cost; 0 where the node is no head
abbrev pub further_cost : Loops → (ℕ → ℕ) → Turns → ℕ → ℕ
further_cost loops bound turns n = if loops.has n then (bound n - 1) * turns.cost n else 0

-- what the steps of a collapsed walk cost: each head that it comes to is passed as often as its bound allows
abbrev pub steps_cost : Loops → (ℕ → ℕ) → Costs → Turns → ℕ → List ℕ → ℕ
steps_cost loops bound costs turns n [] = 0
steps_cost loops bound costs turns n (m ∷ rest) = costs.node n + costs.edge n m + further_cost loops bound turns m + steps_cost loops bound costs turns m rest

-- the heads of a list rank below a limit
abbrev pub RankBelow : Loops → (ℕ → ℕ) → ℕ → List ℕ → Type 0
RankBelow loops rank limit [] = Unit {0}
RankBelow loops rank limit (n ∷ rest) = (loops.has n ≡ true → rank n < limit) × RankBelow loops rank limit rest

-- Each head has a turn: a collapsed walk inside its body and an edge back to the head, and it costs what is said of
-- it. The heads of a turn rank below its own.
pub record AreTurns (edge : ℕ → ℕ → Bool) (loops : Loops) (bound : ℕ → ℕ) (costs : Costs) (turns : Turns) (rank : ℕ → ℕ) : Type 0 where
  pub walk : (h : ℕ) → loops.has h ≡ true → IsWalk edge h (turns.walk h)
  pub back : (h : ℕ) → loops.has h ≡ true → edge (end_of h (turns.walk h)) h ≡ true
  pub inside : (h : ℕ) → loops.has h ≡ true → AreInside (loops.body h) (turns.walk h)
  pub forward : (h : ℕ) → loops.has h ≡ true → IsForward loops h (turns.walk h)
  pub cost : (h : ℕ) → loops.has h ≡ true
      → turns.cost h ≡ steps_cost loops bound costs turns h (turns.walk h)
      + (costs.node (end_of h (turns.walk h)) + costs.edge (end_of h (turns.walk h)) h)
  pub lower : (h : ℕ) → loops.has h ≡ true → RankBelow loops rank (rank h) (turns.walk h)

-- a turn so many times, each from the head on, and then the rest
abbrev pub repeated : ℕ → List ℕ → ℕ → List ℕ → List ℕ
repeated head turn zero rest = rest
repeated head turn (suc count) rest = turn ++ (head ∷ repeated head turn count rest)

-- a collapsed walk stands for the walk in which each head that it comes to is passed as often as its bound allows, each
-- time with the walk that its turn stands for
pub data Expands (loops : Loops) (bound : ℕ → ℕ) (turns : ℕ → List ℕ) : List ℕ → List ℕ → Type 0 where
  none : Expands loops bound turns [] []
  plain : {n : ℕ} {rest full : List ℕ} → loops.has n ≡ false → Expands loops bound turns rest full → Expands loops bound turns (n ∷ rest) (n ∷ full)
  head : {n : ℕ} {rest turn full : List ℕ} → loops.has n ≡ true → Expands loops bound turns (turns n) turn → Expands loops bound turns rest full
      → Expands loops bound turns (n ∷ rest) (n ∷ repeated n turn (bound n - 1) full)

-- the walk that a collapsed walk stands for keeps the head bounds, and costs what the collapsed walk says
pub record IsExpanded (edge : ℕ → ℕ → Bool) (loops : Loops) (bound : ℕ → ℕ) (costs : Costs) (turns : Turns) (n : ℕ) (rest : List ℕ) : Type 0 where
  pub full : List ℕ
  pub expands : Expands loops bound turns.walk (n ∷ rest) (n ∷ full)
  pub walk : IsWalk edge n full
  pub keeps : KeepsBounds loops bound (n ∷ full)
  pub spends : cost_of costs n full ≡ further_cost loops bound turns n + (steps_cost loops bound costs turns n rest + costs.node (end_of n rest))

-- each collapsed walk stands for a walk
abbrev pub CollapsedWalksExpand : Type 0
CollapsedWalksExpand = (edge : ℕ → ℕ → Bool) (entry : ℕ) (loops : Loops) (bound : ℕ → ℕ) (costs : Costs) (turns : Turns) (rank : ℕ → ℕ)
    → AreLoops edge entry loops → ((h : ℕ) → loops.has h ≡ true → 1 ≤ bound h) → AreTurns edge loops bound costs turns rank
    → (n : ℕ) (rest : List ℕ) → IsWalk edge n rest → IsForward loops n rest → IsExpanded edge loops bound costs turns n rest
