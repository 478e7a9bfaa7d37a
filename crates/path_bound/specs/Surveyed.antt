-- What is known of a graph before its longest walk is looked for.
use Rattle.std.specs.Prelude.{◌≡◌, ℕ, ◌+◌, List, length}
use Rattle.bt_base.specs.Graph.{has, is_edge}
use Rattle.loop_nest.specs.Finding.{AreNodes}
use Rattle.loop_nest.specs.declared.natural_loop.Loop.{Loop}
use Rattle.path_bound.specs.declared.surveying.Survey.{Survey}
use Rattle.path_bound.specs.declared.weights.Costs.{Costs as Weights}
use Rattle.path_bound.specs.Capped.{cap}
use Rattle.path_bound.specs.Places.{loops_in, costs_in, AreLoopsBelow, ArePlaces}
use Rattle.path_bound.specs.Ranked.{IsOrder}
use Rattle.path_bound.specs.Ranking.{IsReady, HaveEnds}
use Rattle.path_bound.specs.Steps.{AreStepsOf}
use Rattle.path_bound.specs.Turned.{task_of, IsGround, AreTurnedUpTo}
use Rattle.path_bound.specs.Turning.{NoLabels, HoldHeads, AreSized}

-- loops of a graph, by which each order of its nodes is a ground for turns
pub record AreFit (graph : List (List ℕ)) (loops : List Loop) (bounds : List ℕ) (costs : Weights) : Type 0 where
  pub below : AreLoopsBelow (length graph) loops
  pub ends : HaveEnds (is_edge graph) (loops_in loops)
  pub hold : HoldHeads loops
  pub ground : (nodes order : List ℕ) → AreNodes (length graph) nodes → IsOrder (is_edge graph) (loops_in loops) (has nodes) order
      → IsGround (task_of graph loops bounds costs) order

-- the turns of the heads among the first nodes are taken
pub record IsSurveyed (graph : List (List ℕ)) (loops : List Loop) (bounds : List ℕ) (costs : Weights) (count : ℕ) (survey : Survey) : Type 0 where
  pub nodes : List ℕ
  pub are_nodes : AreNodes (length graph) nodes
  pub sorted : IsOrder (is_edge graph) (loops_in loops) (has nodes) survey.order.items
  pub placed : ArePlaces loops survey.places.items
  pub size : length survey.places.items ≡ length graph
  pub rows : AreStepsOf graph (λ n m. cap ((costs_in costs).node n + (costs_in costs).edge n m)) survey.steps.items
  pub sizes : AreSized (length graph) costs.node.items survey.steps.items survey.laps.items survey.labels.items
  pub ready : IsReady (length graph) survey.ranking
  pub none : NoLabels survey.labels.items
  pub turned : AreTurnedUpTo (task_of graph loops bounds costs) loops survey.order.items count survey.laps.items survey.turns.items
