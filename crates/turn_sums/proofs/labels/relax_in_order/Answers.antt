use Rattle.std.proofs.Common.{get_or}
use Rattle.turn_sums.proofs.Lists.{has_at}
use Rattle.turn_sums.proofs.labels.relax_in_order.Goals as goal

pub relax_node-changed-requires-clause-node : goal.relax_node-changed-requires-clause-node
relax_node-changed-requires-clause-node c =
    c.requires.order (get_or c.args.order.now c.loop-node.node-index 0) (has_at c.args.order.now c.loop-node.node-index c.loop-node-test.true)
