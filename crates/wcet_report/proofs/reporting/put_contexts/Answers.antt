use Rattle.std.proofs.Common.{◌<◌, length, subst, sym}
use Rattle.wcet_report.proofs.Ranks.{puts_rank}
use Rattle.wcet_report.proofs.reporting.put_contexts.Goals as goal

pub loop-rank-preserved : goal.loop-rank-preserved
loop-rank-preserved c =
    puts_rank c.args.image.now c.args.list.now c.args.order.now c.loop-rank.rank-index c.rank-item.result c.index-list-rank.result
    c.args.text.now.items c.loop-rank.text.items c.put_outcome.new.text.items
    c.loop-rank-test.true c.rank-item.is
    (subst (λ rank. rank.index < length c.args.list.now) (sym c.rank-item.is)
    (c.requires c.loop-rank.rank-index c.rank-item.result c.loop-rank-test.true))
    c.index-list-rank.is c.loop-rank.invariant c.in_ok-put_outcome.ensures
