-- Labels of nodes that show how much a walk can cost.
use Rattle.std.specs.Prelude.{◌≡◌, ℕ, ◌+◌, ◌-◌, ◌*◌, ◌<◌, ◌≤◌, ◌⊎◌, Bool, true, false, Option, Some, unwrap_or, if◌then◌else◌}
use Rattle.graph_laws.specs.Walk.{Costs}
use Rattle.graph_laws.specs.Loops.{Loops, AreLoops, is_back, CostAtMost, IsAttained, IsGreatestCost, edges_inside, loops_inside}

-- For each node what a walk from it costs at most, the laps of loops that it is in left out, and for a head and
-- a node of its body what a walk from the node to the next pass of the head costs at most, if there is one.
pub record Labels : Type 0 where
  pub rest : ℕ → ℕ
  pub turn : ℕ → ℕ → Option ℕ

-- what one turn of a loop costs at most; 0 where there is none
abbrev pub turn_cost : Labels → ℕ → ℕ
turn_cost labels h = unwrap_or (labels.turn h h) 0

-- what the passes of a head after the first cost at most; 0 where the node is no head
abbrev pub laps_cost : Loops → (ℕ → ℕ) → Labels → ℕ → ℕ
laps_cost loops bound labels n = if loops.has n then (bound n - 1) * turn_cost labels n else 0

-- what an edge is charged: into a head from outside its body, its further passes
abbrev pub charge : Loops → (ℕ → ℕ) → Labels → ℕ → ℕ → ℕ
charge loops bound labels n m = if is_back loops n m then 0 else laps_cost loops bound labels m

-- what a step costs, with its charge
abbrev pub step_cost : Loops → (ℕ → ℕ) → Costs → Labels → ℕ → ℕ → ℕ
step_cost loops bound costs labels n m = costs.node n + costs.edge n m + charge loops bound labels n m

-- a label that is there and at least so much
pub record IsAtLeast (label : Option ℕ) (amount : ℕ) : Type 0 where
  pub value : ℕ
  pub is : label ≡ Some value
  pub least : amount ≤ value

-- Each label is at least what each edge from its node asks: but for edges back to a head, what the step costs
-- and the label of the next node; in a turn, what the edge that ends it costs. Turns matter only where a head
-- may be passed twice.
pub record AreLabels (edge : ℕ → ℕ → Bool) (loops : Loops) (bound : ℕ → ℕ) (costs : Costs) (labels : Labels) : Type 0 where
  pub node : (n : ℕ) → costs.node n ≤ labels.rest n
  pub rest : (n m : ℕ) → edge n m ≡ true → is_back loops n m ≡ false → step_cost loops bound costs labels n m + labels.rest m ≤ labels.rest n
  pub turn : (h n m v : ℕ) → loops.has h ≡ true → 2 ≤ bound h → loops.body h n ≡ true → loops.body h m ≡ true → edge n m ≡ true → is_back loops n m ≡ false
      → labels.turn h m ≡ Some v → IsAtLeast (labels.turn h n) (step_cost loops bound costs labels n m + v)
  pub back : (h n : ℕ) → loops.has h ≡ true → 2 ≤ bound h → loops.body h n ≡ true → edge n h ≡ true
      → IsAtLeast (labels.turn h n) (costs.node n + costs.edge n h)

-- a label that is what one edge to a node of smaller rank asks
pub record IsAsked (edge : ℕ → ℕ → Bool) (loops : Loops) (bound : ℕ → ℕ) (costs : Costs) (labels : Labels) (rank : ℕ → ℕ) (to : ℕ → Option ℕ)
    (n value : ℕ) : Type 0 where
  pub next : ℕ
  pub asked : ℕ
  pub leads : edge n next ≡ true
  pub forward : is_back loops n next ≡ false
  pub lower : rank next < rank n
  pub label : to next ≡ Some asked
  pub is : value ≡ step_cost loops bound costs labels n next + asked

-- Each label is one of what it must be at least. The ranks fall along the edges that are taken.
pub record AreChosen (edge : ℕ → ℕ → Bool) (loops : Loops) (bound : ℕ → ℕ) (costs : Costs) (labels : Labels) (rank : ℕ → ℕ) : Type 0 where
  pub rest : (n : ℕ) → (labels.rest n ≡ costs.node n) ⊎ IsAsked edge loops bound costs labels rank (λ m. Some (labels.rest m)) n (labels.rest n)
  pub turn : (h n v : ℕ) → loops.has h ≡ true → loops.body h n ≡ true → labels.turn h n ≡ Some v
      → ((edge n h ≡ true) × (v ≡ costs.node n + costs.edge n h)) ⊎ IsAsked (edges_inside edge (loops.body h)) loops bound costs labels rank (labels.turn h) n v

-- what the labels say of the walks from a node: its label, and its further passes where it is a head
abbrev pub most_from : Loops → (ℕ → ℕ) → Labels → ℕ → ℕ
most_from loops bound labels n = laps_cost loops bound labels n + labels.rest n

-- labels bound the cost of each walk from the entry that keeps the head bounds
abbrev pub LabelsBoundWalks : Type 0
LabelsBoundWalks = (edge : ℕ → ℕ → Bool) (entry : ℕ) (loops : Loops) (bound : ℕ → ℕ) (costs : Costs) (labels : Labels)
    → AreLoops edge entry loops → AreLabels edge loops bound costs labels
    → CostAtMost edge entry loops bound costs (most_from loops bound labels entry)

-- labels that are chosen are attained
abbrev pub ChosenLabelsAreAttained : Type 0
ChosenLabelsAreAttained = (edge : ℕ → ℕ → Bool) (entry : ℕ) (loops : Loops) (bound : ℕ → ℕ) (costs : Costs) (labels : Labels) (rank : ℕ → ℕ)
    → AreLoops edge entry loops → ((h : ℕ) → loops.has h ≡ true → 1 ≤ bound h) → AreChosen edge loops bound costs labels rank
    → IsAttained edge entry loops bound costs (most_from loops bound labels entry)

-- labels that are chosen and ask enough say the greatest cost
abbrev pub ChosenLabelsAreGreatest : Type 0
ChosenLabelsAreGreatest = (edge : ℕ → ℕ → Bool) (entry : ℕ) (loops : Loops) (bound : ℕ → ℕ) (costs : Costs) (labels : Labels) (rank : ℕ → ℕ)
    → AreLoops edge entry loops → ((h : ℕ) → loops.has h ≡ true → 1 ≤ bound h) → AreLabels edge loops bound costs labels
    → AreChosen edge loops bound costs labels rank
    → IsGreatestCost edge entry loops bound costs (most_from loops bound labels entry)

-- labels of the walks inside one body, each at least what each edge inside asks
pub record AreOwnLabels (edge : ℕ → ℕ → Bool) (loops : Loops) (bound : ℕ → ℕ) (costs : Costs) (labels : Labels) (h : ℕ) (own : ℕ → ℕ) : Type 0 where
  pub node : (n : ℕ) → loops.body h n ≡ true → costs.node n ≤ own n
  pub rest : (n m : ℕ) → loops.body h n ≡ true → loops.body h m ≡ true → edge n m ≡ true → is_back loops n m ≡ false
      → step_cost loops bound costs labels n m + own m ≤ own n

-- and each one of these
pub record AreOwnChosen (edge : ℕ → ℕ → Bool) (loops : Loops) (bound : ℕ → ℕ) (costs : Costs) (labels : Labels) (rank : ℕ → ℕ) (h : ℕ)
    (own : ℕ → ℕ) : Type 0 where
  pub rest : (n : ℕ) → loops.body h n ≡ true
      → (own n ≡ costs.node n) ⊎ IsAsked (edges_inside edge (loops.body h)) loops bound costs labels rank (λ m. Some (own m)) n (own n)

-- such labels bound the cost of each walk inside the body from its head that keeps the head bounds
abbrev pub OwnLabelsBoundWalks : Type 0
OwnLabelsBoundWalks = (edge : ℕ → ℕ → Bool) (entry : ℕ) (loops : Loops) (bound : ℕ → ℕ) (costs : Costs) (labels : Labels) (h : ℕ) (own : ℕ → ℕ)
    → AreLoops edge entry loops → AreLabels edge loops bound costs labels → loops.has h ≡ true → AreOwnLabels edge loops bound costs labels h own
    → CostAtMost (edges_inside edge (loops.body h)) h loops bound costs (laps_cost loops bound labels h + own h)

-- a loop's own greatest cost: that of the walks inside its body from its head
abbrev pub OwnLabelsAreGreatest : Type 0
OwnLabelsAreGreatest = (edge : ℕ → ℕ → Bool) (entry : ℕ) (loops : Loops) (bound : ℕ → ℕ) (costs : Costs) (labels : Labels) (rank : ℕ → ℕ) (h : ℕ) (own : ℕ → ℕ)
    → AreLoops edge entry loops → ((k : ℕ) → loops.has k ≡ true → 1 ≤ bound k) → AreLabels edge loops bound costs labels
    → AreChosen edge loops bound costs labels rank
    → loops.has h ≡ true → AreOwnLabels edge loops bound costs labels h own → AreOwnChosen edge loops bound costs labels rank h own
    → IsGreatestCost (edges_inside edge (loops.body h)) h loops bound costs (laps_cost loops bound labels h + own h)

-- the loops inside a body are those of the graph of its nodes, which is entered at its head
abbrev pub LoopsInsideAreLoops : Type 0
LoopsInsideAreLoops = (edge : ℕ → ℕ → Bool) (entry : ℕ) (loops : Loops) (h : ℕ)
    → AreLoops edge entry loops → loops.has h ≡ true
    → AreLoops (edges_inside edge (loops.body h)) h (loops_inside loops h)
