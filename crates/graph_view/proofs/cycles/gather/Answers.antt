use Rattle.std.proofs.Common.{◌≡◌, ◌∙◌, length, arith}
use Rattle.bt_base.specs.Graph.{rows_of}
use Rattle.graph_view.proofs.Rounds.{empty_at, empty_count, gathered_none, gathered_more}
use Rattle.graph_view.proofs.cycles.gather.Goals as goal

pub loop-calling-init : goal.loop-calling-init
loop-calling-init c =
    let e = c.in_ok-rows.ensures {u = tt} in
    let count : length c.in_ok-rows.rows.items ≡ length c.args.subs.now = empty_count c.in_ok-rows.rows.items (length c.args.subs.now) e in
    record {
      count = omega (arith, count, c.in_ok-rows.rows.ok.0);
      gathered = gathered_none c.args.subs.now c.args.names.now (rows_of c.in_ok-rows.rows.items) (empty_at (rows_of c.in_ok-rows.rows.items) (length c.args.subs.now) e);
    }

pub loop-calling-preserved : goal.loop-calling-preserved
loop-calling-preserved c =
    let e = c.in_ok-put_call.ensures {u = tt} in
    record {
      count = e.count ∙ c.loop-calling.invariant.count;
      gathered = gathered_more c.args.subs.now c.args.names.now c.args.callings.now c.loop-calling.calling-index _ (rows_of c.loop-calling.rows.items) (rows_of c.put_call.new.rows.items)
          c.loop-calling-test.true c.loop-calling.invariant.gathered e.puts;
    }
