-- Labels of one pass, walks to which they lead, and turns.
use Rattle.std.specs.Prelude.{◌≡◌, ℕ, ◌+◌, ◌-◌, ◌*◌, ◌<◌, ◌≤◌, ◌↔◌, Bool, IsTrue, true, false, List, [], ◌∷◌, length, take, slice_index, slice_get}
use Rattle.std.specs.Prelude.{slice_set, Option, Some, None, Vec}
use Rattle.std.specs.declared.alloc.Global.{Global}
use Rattle.bt_base.specs.Graph.{has}
use Rattle.graph_laws.specs.Walk.{Costs, end_of}
use Rattle.graph_laws.specs.Loops.{Loops}
use Rattle.loop_nest.specs.declared.natural_loop.Loop.{Loop}
use Rattle.path_bound.specs.declared.choosing.Label.{Label}
use Rattle.path_bound.specs.declared.long_walk.Turn.{Turn}
use Rattle.path_bound.specs.declared.stepping.Step.{Step}
use Rattle.path_bound.specs.Capped.{limit, cap}
use Rattle.path_bound.specs.Choosing.{label_at, best_of, start_at, only, next_of, cost_of}
use Rattle.path_bound.specs.Ranked.{IsOrder}
use Rattle.path_bound.specs.Steps.{steps_at}

-- no node has a label
abbrev pub NoLabels : List (Option Label) → Type 0
NoLabels labels = (n : ℕ) → label_at labels n ≡ None

-- each node of a list has the best of what its steps to nodes before it ask, and no other node has a label
pub record ArePassed (order : List ℕ) (head : Option ℕ) (node : List ℕ)
    (steps : List (Vec Step Global)) (laps : List ℕ) (labels : List (Option Label)) : Type 0 where
  pub labelled : (k : ℕ) → k < length order
      → label_at labels (slice_index order k)
      ≡ best_of cap head (slice_index laps) (only (has (take k order)) (label_at labels))
      (start_at head (cap (slice_index node (slice_index order k)))) (steps_at steps (slice_index order k))
  pub others : (n : ℕ) → has order n ≡ false → label_at labels n ≡ None

-- labels lead from each node of a walk to the next
abbrev pub Leads : List (Option Label) → ℕ → List ℕ → Type 0
Leads labels n [] = Unit {0}
Leads labels n (m ∷ rest) = (next_of (label_at labels n) ≡ Some m) × Leads labels m rest

-- labels lead along a walk, and not on from its end
pub record IsFollowed (labels : List (Option Label)) (from : ℕ) (walk : List ℕ) : Type 0 where
  pub rest : List ℕ
  pub begins : walk ≡ from ∷ rest
  pub leads : Leads labels from rest
  pub ends : next_of (label_at labels (end_of from rest)) ≡ None

-- what the steps of a walk cost, with a number for each node to which they lead
abbrev pub toll : Costs → (ℕ → ℕ) → ℕ → List ℕ → ℕ
toll costs laps n [] = 0
toll costs laps n (m ∷ rest) = costs.node n + costs.edge n m + laps m + toll costs laps m rest

-- Labels of one pass over the nodes of a loop's body, and the walk to which they lead from its head, which is kept as the
-- loop's turn. What the passes after the first cost is told of the head.
pub record IsTaken (edge : ℕ → ℕ → Bool) (loops : Loops) (one : Loop) (bound place : ℕ) (node : List ℕ)
    (steps : List (Vec Step Global)) (old new : List ℕ) (before after : List Turn) : Type 0 where
  pub nodes : List ℕ
  pub sorted : IsOrder edge loops (has one.body.items) nodes
  pub labels : List (Option Label)
  pub passed : ArePassed nodes (Some one.head) node steps old labels
  pub turn : Turn
  pub named : (was : Turn) → slice_get before place ≡ Some was → turn.head ≡ was.head
  pub followed : IsFollowed labels one.head turn.walk.items
  pub cost : turn.cost ≡ cost_of (label_at labels one.head)
  pub laps : new ≡ slice_set old one.head (cap ((bound - 1) * turn.cost))
  pub turns : after ≡ slice_set before place turn

-- labels of one pass over the nodes of a loop's body say whether the walks inside it cost more than can be told
pub record IsWeighed (edge : ℕ → ℕ → Bool) (loops : Loops) (one : Loop) (node : List ℕ)
    (steps : List (Vec Step Global)) (laps : List ℕ) (large : Bool) : Type 0 where
  pub nodes : List ℕ
  pub sorted : IsOrder edge loops (has one.body.items) nodes
  pub labels : List (Option Label)
  pub passed : ArePassed nodes None node steps laps labels
  pub says : IsTrue large ↔ (limit ≤ cap (slice_index laps one.head + cost_of (label_at labels one.head)))

-- each loop's body has its head
abbrev pub HoldHeads : List Loop → Type 0
HoldHeads loops = (k : ℕ) (one : Loop) → slice_get loops k ≡ Some one → has one.body.items one.head ≡ true

-- the arrays of a pass over a graph have their sizes, and steps lead to its nodes
pub record AreSized (count : ℕ) (node : List ℕ) (steps : List (Vec Step Global)) (laps : List ℕ) (labels : List (Option Label)) : Type 0 where
  pub costs : length node ≡ count
  pub rows : length steps ≡ count
  pub lapped : length laps ≡ count
  pub marked : length labels ≡ count
  pub within : (n k : ℕ) (step : Step) → slice_get (steps_at steps n) k ≡ Some step → step.to < count
