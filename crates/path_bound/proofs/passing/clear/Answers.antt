use Rattle.std.proofs.Common.{◌<◌, length, get_or, arith}
use Rattle.loop_nest.proofs.Lists.{has_at}
use Rattle.path_bound.proofs.Passed.{cleared_on}
use Rattle.path_bound.proofs.passing.clear.Goals as goal

pub bounds-labels-node : goal.bounds-labels-node
bounds-labels-node c =
    let w : get_or c.args.nodes.now c.loop-node.node-index 0 < length c.args.labels.now =
    c.requires (get_or c.args.nodes.now c.loop-node.node-index 0) (has_at c.args.nodes.now c.loop-node.node-index c.loop-node-test.true) in
    omega (arith, w, c.loop-node.invariant.size)

pub loop-node-preserved : goal.loop-node-preserved
loop-node-preserved c = cleared_on c.args.nodes.now c.loop-node.node-index c.args.labels.now c.loop-node.labels c.loop-node-test.true
    (bounds-labels-node c) c.loop-node.invariant.size c.loop-node.invariant.labels
