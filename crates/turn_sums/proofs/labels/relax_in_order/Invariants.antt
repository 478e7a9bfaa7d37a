use Rattle.bt_base.specs.Graph.{is_edge}
use Rattle.turn_sums.specs.Search.{steps_of, AreFound}
use Rattle.turn_sums.proofs.labels.relax_in_order.Given as goal

-- each label is the sum of a walk
abbrev pub invariant-loop-node : goal.invariant-loop-node
invariant-loop-node l = AreFound (is_edge l.graph) l.head (steps_of l.ups l.downs) l.labels
