-- Labels of nodes, each the greatest of what its steps ask.
use Rattle.std.specs.Prelude.{◌==◌, ℕ, ◌+◌, Bool, false, List, [], ◌∷◌, slice_index_or, Option, Some, None, if◌then◌else◌}
use Rattle.std.specs.Prelude.{nat_lt}
use Rattle.path_bound.specs.declared.choosing.Label.{Label}
use Rattle.path_bound.specs.declared.stepping.Step.{Step}

-- the label of a node
abbrev pub label_at : List (Option Label) → ℕ → Option Label
label_at labels n = slice_index_or labels n None

-- whether a walk ends at a node
abbrev pub is_end : Option ℕ → ℕ → Bool
is_end None n = false
is_end (Some end) n = end == n

-- what a step asks by the label of the node to which it leads
abbrev pub behind : (ℕ → ℕ) → (ℕ → ℕ) → Step → Option Label → Option Label
behind cut laps step None = None
behind cut laps step (Some one) = Some (record { cost = cut (cut (step.cost + laps step.to) + one.cost); next = Some step.to })

-- what a step asks: the walk ends with it, or goes on
abbrev pub asked : (ℕ → ℕ) → Option ℕ → (ℕ → ℕ) → (ℕ → Option Label) → Step → Option Label
asked cut head laps label step = if is_end head step.to then Some (record { cost = step.cost; next = None }) else behind cut laps step (label step.to)

-- the label of the greater cost, or the first of two that cost the same
abbrev pub greater : Option Label → Option Label → Option Label
greater None two = two
greater (Some old) None = Some old
greater (Some old) (Some new) = if nat_lt old.cost new.cost then Some new else Some old

-- the greatest of a label and of those that steps ask, with sums that are cut
abbrev pub best_of : (ℕ → ℕ) → Option ℕ → (ℕ → ℕ) → (ℕ → Option Label) → Option Label → List Step → Option Label
best_of cut head laps label start [] = start
best_of cut head laps label start (step ∷ steps) = best_of cut head laps label (greater start (asked cut head laps label step)) steps

-- the label of a walk that ends at a node, where walks end anywhere
abbrev pub start_at : Option ℕ → ℕ → Option Label
start_at None cost = Some (record { cost = cost; next = None })
start_at (Some head) cost = None

-- the labels of some nodes alone
abbrev pub only : (ℕ → Bool) → (ℕ → Option Label) → ℕ → Option Label
only test label n = if test n then label n else None

-- what a label says that a walk costs
abbrev pub cost_of : Option Label → ℕ
cost_of None = 0
cost_of (Some one) = one.cost

-- the node to which it leads
abbrev pub next_of : Option Label → Option ℕ
next_of None = None
next_of (Some one) = one.next
