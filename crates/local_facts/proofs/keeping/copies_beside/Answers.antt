use Rattle.local_facts.proofs.Searching.{copy_more}
use Rattle.local_facts.proofs.keeping.copies_beside.Goals as goal

pub loop-k-preserved : goal.loop-k-preserved
loop-k-preserved g c =
    copy_more g.S.Key.Ord.cmp (g.met.S.System.lawful c.args.system.now).keys c.args.keep.now c.args.fixed.now c.args.facts.now c.args.keys.now
    c.loop-k.k-index c.k-item.result c.loop-k.copies c.copy_beside.new.copies c.loop-k-test.true c.k-item.is c.loop-k.invariant
    c.in_ok-copy_beside.ensures
