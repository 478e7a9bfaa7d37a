-- What the edges of a graph cost, as a list.
use Rattle.std.specs.Prelude.{ℕ, suc, List, [], ◌∷◌, ◌++◌, map, slice_get}
use Rattle.abs_state.specs.declared.key.Place.{Place}
use Rattle.context_outcomes.specs.Spending.{step_cost}

-- what an edge costs from one number of a program point to another
abbrev pub cost_between : List ℕ → List ℕ → List Place → ℕ → ℕ → ℕ
cost_between image costs nodes n m = step_cost image costs (slice_get nodes n) (slice_get nodes m)

-- those of a node
abbrev pub extras_of_row : (ℕ → ℕ → ℕ) → ℕ → List ℕ → List (ℕ × ℕ × ℕ)
extras_of_row cost n row = map (λ m. (n, m, cost n m)) row

-- those of the nodes from one on
abbrev pub extras_from : (ℕ → ℕ → ℕ) → ℕ → List (List ℕ) → List (ℕ × ℕ × ℕ)
extras_from cost n [] = []
extras_from cost n (row ∷ rows) = extras_of_row cost n row ++ extras_from cost (suc n) rows
