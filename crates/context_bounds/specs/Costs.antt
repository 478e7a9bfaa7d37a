-- The costs of a context as lists.
use Rattle.std.specs.Prelude.{◌≡◌, ℕ, map, if◌then◌else◌}
use Rattle.bt_base.specs.Graph.{is_edge}
use Rattle.context_bounds.specs.Extras.{cost_between}
use Rattle.context_bounds.specs.Nodes.{costs_at}
use Rattle.context_outcomes.specs.Inside.{Shape}
use Rattle.context_outcomes.specs.Setting.{Setting}
use Rattle.context_outcomes.specs.Spending.{Callees, costs_of}
use Rattle.path_bound.specs.Places.{costs_in, extra_of}
use Rattle.path_bound.specs.declared.weights.Costs.{Costs as Weights}
use Rattle.transfer_rules.specs.Give.{Facts}

-- costs of nodes and of edges as lists are those of the walks of a graph of facts
abbrev pub ListsAreCosts : Type 0
ListsAreCosts =
    (facts : Facts) (sub : ℕ) (S : Setting) (shape : Shape facts sub) (callees : Callees) (costs : Weights)
    → costs.node.items ≡ costs_at S facts shape.nodes (map callees shape.nodes)
    → ((n m : ℕ) → extra_of costs.extra.items n m ≡ (if is_edge shape.graph n m then cost_between S.image S.costs shape.nodes n m else 0))
    → costs_in costs ≡ costs_of S shape callees
