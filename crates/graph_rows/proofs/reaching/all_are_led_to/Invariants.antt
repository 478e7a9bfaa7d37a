use Rattle.std.proofs.Common.{◌≡◌, ◌<◌, ℕ, Bool, List, length}
use Rattle.bt_base.specs.Graph.{is_edge}
use Rattle.graph_laws.specs.Nest.{IsReached}
use Rattle.graph_rows.specs.Reaching.{AreMarksOfReached}
use Rattle.graph_rows.proofs.reaching.all_are_led_to.Given as goal

-- the nodes gone through are reached, and so is what is marked
pub record Through (graph : List (List ℕ)) (list : List Bool) (node : ℕ) : Type 0 where
  pub count : length list ≡ length graph
  pub marks : AreMarksOfReached graph list
  pub reached : (n : ℕ) → n < node → IsReached (is_edge graph) 0 n

abbrev pub invariant-loop-node : goal.invariant-loop-node
invariant-loop-node l = Through l.graph l.marks.items l.node
