use Rattle.std.proofs.Common.{◌≡◌, ℕ, length, arith, subst}
use Rattle.bt_base.specs.Graph.{is_edge}
use Rattle.turn_sums.specs.Search.{steps_of, IsLeastSoFar}
use Rattle.turn_sums.proofs.TurnSums.{least_all, leaves_node}
use Rattle.turn_sums.proofs.labels.least_turn.Goals as goal

pub returns : goal.returns
returns c =
    let all : c.loop-node.node ≡ length c.args.graph.now = omega (arith, c.loop-node-test.false, c.loop-node.auto.node-end, c.count-count.ensures.count) in
    least_all (is_edge c.args.graph.now) c.args.head (steps_of c.args.ups.now c.args.downs.now) c.args.labels.now (length c.args.graph.now) c.loop-node.best
    (leaves_node c.args.graph.now)
    c.requires.found c.requires.settled
    (subst (λ (n : ℕ). IsLeastSoFar (is_edge c.args.graph.now) c.args.head
    (steps_of c.args.ups.now c.args.downs.now) c.args.labels.now n c.loop-node.best) all c.loop-node.invariant)
