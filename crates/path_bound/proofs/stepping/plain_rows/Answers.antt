use Rattle.std.proofs.Common.{arith}
use Rattle.path_bound.proofs.Stepped.{plain_done}
use Rattle.path_bound.proofs.stepping.plain_rows.Goals as goal

pub returns : goal.returns
returns c =
    plain_done c.args.graph.now c.args.node.now c.loop-at.at c.loop-at.rows.items
    (omega (arith, c.loop-at-test.false, c.loop-at.auto.at-end, c.count-at-end.ensures.count)) c.loop-at.invariant
