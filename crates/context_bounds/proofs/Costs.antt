-- The costs of a context as lists are those of its walks.
use Rattle.std.proofs.Common.{◌≡◌, ℕ, zero, suc, List, [], ◌∷◌, map, slice_index, refl, ap, ◌∙◌}
use Rattle.std.specs.Prelude.{slice_get}
use Rattle.abs_state.specs.declared.key.Place.{Place}
use Rattle.context_bounds.specs.Costs.{ListsAreCosts}
use Rattle.context_bounds.specs.Nodes.{costs_at}
use Rattle.context_outcomes.specs.Setting.{Setting}
use Rattle.context_outcomes.specs.Spending.{Callees, cost_if, place_cost}
use Rattle.transfer_rules.specs.Give.{Facts}

-- what a node costs stands at its place in the list
node_at : (S : Setting) (facts : Facts) (callees : Callees) (nodes : List Place) (n : ℕ)
    → slice_index (costs_at S facts nodes (map callees nodes)) n ≡ cost_if (slice_get nodes n) (λ p. place_cost S facts (callees p) p)
node_at S facts callees [] n = refl
node_at S facts callees (p ∷ nodes) zero = refl
node_at S facts callees (p ∷ nodes) (suc n) = node_at S facts callees nodes n

-- the costs of nodes and of edges are those of the walks
pub lists_are_costs : ListsAreCosts
lists_are_costs facts sub S shape callees costs nodes edges = λ i. record {
  node = λ n. (ap (λ (list : List ℕ). slice_index list n) nodes ∙ node_at S facts callees shape.nodes n) i;
  edge = λ n m. edges n m i;
}
