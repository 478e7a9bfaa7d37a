-- The greatest costs of walks as they are, without a limit, as functions of a node.
use Rattle.std.specs.Prelude.{◌&&◌, ℕ, zero, suc, ◌+◌, ◌-◌, ◌*◌, Bool, not, List, [], slice_index_or, Option, Some, None, if◌then◌else◌}
use Rattle.graph_laws.specs.Walk.{Costs}
use Rattle.graph_laws.specs.Loops.{Loops, is_back}
use Rattle.graph_laws.specs.Labels.{Labels}
use Rattle.path_bound.specs.declared.choosing.Label.{Label}
use Rattle.path_bound.specs.Capped.{exact}
use Rattle.path_bound.specs.Choosing.{best_of, start_at, only, cost_of}
use Rattle.path_bound.specs.Steps.{moves}

-- a function of nodes that is defined in steps, so many of them
abbrev pub iterate : {A : Type 0} → ((ℕ → A) → ℕ → A) → A → ℕ → ℕ → A
iterate next bottom zero n = bottom
iterate next bottom (suc k) n = next (λ m. iterate next bottom k m) n

-- a graph with its costs, its loops and the bounds of their heads
pub record Task : Type 0 where
  pub graph : List (List ℕ)
  pub costs : Costs
  pub loops : Loops
  pub bound : ℕ → ℕ

-- the nodes to which edges lead from a node
abbrev pub row_of : Task → ℕ → List ℕ
row_of t n = slice_index_or t.graph n []

-- what a node and an edge from it cost
abbrev pub move_of : Task → ℕ → ℕ → ℕ
move_of t n m = t.costs.node n + t.costs.edge n m

-- whether a walk through some nodes goes on along an edge
abbrev pub goes : Task → (ℕ → Bool) → ℕ → ℕ → Bool
goes t inside n m = inside m && not (is_back t.loops n m)

-- the label of a node by those of its successors
abbrev pub label_next : Task → (ℕ → Bool) → Option ℕ → (ℕ → ℕ) → (ℕ → Option Label) → ℕ → Option Label
label_next t inside head laps label n =
    best_of exact head laps (only (goes t inside n) label) (start_at head (t.costs.node n)) (moves (move_of t n) (row_of t n))

-- the labels of the walks through some nodes
abbrev pub labels_by : Task → (ℕ → Bool) → Option ℕ → (ℕ → ℕ) → ℕ → ℕ → Option Label
labels_by t inside head laps size n = iterate (label_next t inside head laps) None size n

-- what the passes of a head after the first cost, by what those of inner heads cost
abbrev pub laps_next : Task → ℕ → (ℕ → ℕ) → ℕ → ℕ
laps_next t size laps h = if t.loops.has h then (t.bound h - 1) * cost_of (labels_by t (t.loops.body h) (Some h) laps size h) else 0

abbrev pub laps_of : Task → ℕ → ℕ → ℕ
laps_of t size h = iterate (laps_next t size) 0 size h

abbrev pub cost_if : Option Label → Option ℕ
cost_if None = None
cost_if (Some one) = Some one.cost

-- the labels of all walks, and of the turns of each loop
abbrev pub labels_of : Task → (ℕ → Bool) → ℕ → Labels
labels_of t whole size = record {
  rest = λ n. cost_of (labels_by t whole None (laps_of t size) size n);
  turn = λ h n. cost_if (labels_by t (t.loops.body h) (Some h) (laps_of t size) size n);
}

-- the labels of the walks inside the body of a loop
abbrev pub own_of : Task → ℕ → ℕ → ℕ → ℕ
own_of t size h n = cost_of (labels_by t (t.loops.body h) None (laps_of t size) size n)
