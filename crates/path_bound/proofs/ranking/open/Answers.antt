use Rattle.std.proofs.Common.{◌<◌, length, get_or, arith}
use Rattle.loop_nest.proofs.Lists.{has_at}
use Rattle.path_bound.proofs.Rankings.{opened_on}
use Rattle.path_bound.proofs.ranking.open.Goals as goal

pub bounds-placed-node : goal.bounds-placed-node
bounds-placed-node c =
    let w : get_or c.args.nodes.now c.loop-node.node-index 0 < length c.args.placed.now =
    c.requires (get_or c.args.nodes.now c.loop-node.node-index 0) (has_at c.args.nodes.now c.loop-node.node-index c.loop-node-test.true) in
    omega (arith, w, c.loop-node.invariant.size)

pub loop-node-preserved : goal.loop-node-preserved
loop-node-preserved c =
    let w : get_or c.args.nodes.now c.loop-node.node-index 0 < length c.args.placed.now =
    c.requires (get_or c.args.nodes.now c.loop-node.node-index 0) (has_at c.args.nodes.now c.loop-node.node-index c.loop-node-test.true) in
    opened_on c.args.nodes.now c.loop-node.node-index c.args.placed.now c.loop-node.placed c.loop-node-test.true
    (omega (arith, w, c.loop-node.invariant.size)) c.loop-node.invariant.size c.loop-node.invariant.opened
