use Rattle.std.proofs.Common.{arith}
use Rattle.std.proofs.lemmas.List.{take_rest, length-drop}
use Rattle.bt_base.proofs.Fronts.{appended_more}
use Rattle.bt_base.proofs.writing.write_all.Goals as goal

-- the next piece stands behind what was written, so both together are a longer front
pub loop-written-preserved : goal.loop-written-preserved
loop-written-preserved g c =
    let taken = rw (take_rest c.args.bytes.now c.loop-written.written) at c.in-Ok.ensures in
    record {
      counts = omega (arith, taken.counts);
      appended = appended_more _ _ _ c.args.bytes.now c.loop-written.written c.in-Ok.count c.loop-written.invariant.appended taken.appended;
      within = omega (arith, taken.within, length-drop c.loop-written.written c.args.bytes.now);
    }
