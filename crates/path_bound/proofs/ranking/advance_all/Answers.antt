use Rattle.std.proofs.Common.{◌-◌, ◌<◌, length, take, get_or, arith}
use Rattle.bt_base.specs.Graph.{has}
use Rattle.loop_nest.proofs.Lists.{has_at}
use Rattle.path_bound.proofs.Rankings.{last_taken, grown_on}
use Rattle.path_bound.proofs.ranking.advance_all.Goals as goal

pub advance-requires-clause-node : goal.advance-requires-clause-node
advance-requires-clause-node c =
    c.requires.nodes (get_or c.args.nodes.now (c.loop-left.left - 1) 0)
    (has_at c.args.nodes.now (c.loop-left.left - 1) (omega (arith, c.loop-left.invariant.few, c.loop-left-test.true)))

pub loop-left-preserved : goal.loop-left-preserved
loop-left-preserved c =
    let e = c.in_ok-advance.ensures {u = tt} in
    let w : c.loop-left.left - 1 < length c.args.nodes.now = omega (arith, c.loop-left.invariant.few, c.loop-left-test.true) in
    record {
      few = omega (arith, w);
      placed = e.placed;
      waiting = e.waiting;
      grown = grown_on c.args.order.now.items c.loop-left.order.items c.advance.new.order.items c.loop-left.invariant.grown e.grown;
      ranking = λ inside done all is.
          e.ranking inside done (has (take (c.loop-left.left - 1) c.args.nodes.now)) (has (take c.loop-left.left c.args.nodes.now))
          (last_taken c.args.nodes.now c.loop-left.left (omega (arith, c.loop-left-test.true)) c.loop-left.invariant.few)
          (all (get_or c.args.nodes.now (c.loop-left.left - 1) 0) (has_at c.args.nodes.now (c.loop-left.left - 1) w))
          (c.loop-left.invariant.ranking inside done all is);
    }
