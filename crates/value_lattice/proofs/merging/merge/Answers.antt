use Rattle.std.proofs.Common.{arith}
use Rattle.value_lattice.proofs.MergeLemmas.{merging_more, merging_all}
use Rattle.value_lattice.proofs.merging.merge.Goals as goal

pub loop-i-preserved : goal.loop-i-preserved
loop-i-preserved c =
    rw c.in_ok-push.ensures.items
    (merging_more c.args.xs.now c.args.ys.now c.loop-i.i c.loop-i.j c.next_of-number.result c.step-i.result c.step-j.result c.loop-i.merged.items
    c.requires.left c.requires.right c.loop-i.invariant (record { one = c.next_of-number.ensures.one }) c.step-i.ensures.step c.step-j.ensures.step)

pub returns : goal.returns
returns c = merging_all c.args.xs.now c.args.ys.now c.loop-i.i c.loop-i.j c.loop-i.merged.items (omega arith) (omega arith) c.loop-i.invariant
