use Rattle.bt_base.specs.Graph.{is_edge}
use Rattle.turn_sums.specs.Search.{steps_of, AreFound}
use Rattle.turn_sums.proofs.Settled.{CoversWalks}
use Rattle.turn_sums.proofs.labels.settle.Given as goal

-- walks of as many steps as there were rounds are covered
abbrev pub invariant-loop-round : goal.invariant-loop-round
invariant-loop-round l = record {
  found : AreFound (is_edge l.graph) l.head (steps_of l.ups l.downs) l.labels;
  covers : CoversWalks (is_edge l.graph) l.head (steps_of l.ups l.downs) l.labels l._round;
}
