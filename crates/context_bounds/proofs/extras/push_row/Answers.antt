use Rattle.std.proofs.Common.{get_or, ◌∙◌}
use Rattle.loop_nest.proofs.Lists.{has_at}
use Rattle.context_bounds.proofs.Loops.{edge_on}
use Rattle.context_bounds.proofs.extras.push_row.Goals as goal

pub bounds-nodes-m : goal.bounds-nodes-m
bounds-nodes-m c = c.requires.next (get_or c.args.row.now c.loop-m.m-index 0) (has_at c.args.row.now c.loop-m.m-index c.loop-m-test.true)

pub loop-m-preserved : goal.loop-m-preserved
loop-m-preserved c =
    edge_on c.args.image.now c.args.cycles.now c.args.nodes.now c.args.n c.args.row.now c.loop-m.m-index
    c.edge_cost-cost.result c.loop-m.list.items c.push.new.self.items
    _ _ c.requires.node
    (c.requires.next (get_or c.args.row.now c.loop-m.m-index 0) (has_at c.args.row.now c.loop-m.m-index c.loop-m-test.true)) c.loop-m-test.true
    c.edge_cost-cost.ensures.value c.in_ok-push.ensures.items
    ∙ c.loop-m.invariant
