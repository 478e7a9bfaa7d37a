use Rattle.bt_base.specs.Graph.{is_edge}
use Rattle.turn_sums.specs.Search.{steps_of, IsLeastSoFar}
use Rattle.turn_sums.proofs.labels.least_turn.Given as goal

-- the turns that end at the nodes gone through
abbrev pub invariant-loop-node : goal.invariant-loop-node
invariant-loop-node l = IsLeastSoFar (is_edge l.graph) l.head (steps_of l.ups l.downs) l.labels l.node l.best
