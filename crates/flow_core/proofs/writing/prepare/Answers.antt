use Rattle.flow_core.proofs.WritingLemmas.{readers_same, readers_onward, marks_same, marks_onward, ready_more}
use Rattle.flow_core.proofs.writing.prepare.Goals as goal

pub loop-k-preserved : goal.loop-k-preserved
loop-k-preserved g c =
    let cmp = g.S.Key.Ord.cmp in
    let reads = (g.S.System.rules c.args.system.now).reads in
    let inv = c.loop-k.invariant in
    let step = c.in_ok-prepare_key.ensures in
    record {
      keeps = readers_onward cmp reads c.args.readers.now c.loop-k.readers c.prepare_key.new.readers inv.keeps step.keeps;
      marks = marks_onward cmp c.args.queue.now c.loop-k.queue c.prepare_key.new.queue inv.marks step.marks;
      ready = ready_more cmp reads c.args.facts.now c.args.keys.now c.loop-k.k-index c.k-item.result c.loop-k.queue c.prepare_key.new.queue c.loop-k.readers
          c.prepare_key.new.readers c.loop-k-test.true c.k-item.is inv.ready step.marks step.keeps step.ready;
    }

pub returns-in_err-prepare_key-clause-keeps : goal.returns-in_err-prepare_key-clause-keeps
returns-in_err-prepare_key-clause-keeps g c =
    let reads = (g.S.System.rules c.args.system.now).reads in
    readers_onward g.S.Key.Ord.cmp reads c.args.readers.now c.loop-k.readers c.prepare_key.new.readers c.loop-k.invariant.keeps
    c.in_err-prepare_key.ensures.keeps

pub returns-in_err-prepare_key-clause-marks : goal.returns-in_err-prepare_key-clause-marks
returns-in_err-prepare_key-clause-marks g c =
    marks_onward g.S.Key.Ord.cmp c.args.queue.now c.loop-k.queue c.prepare_key.new.queue c.loop-k.invariant.marks c.in_err-prepare_key.ensures.marks
