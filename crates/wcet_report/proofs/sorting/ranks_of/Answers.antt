use Rattle.wcet_report.proofs.Ranks.{ranks_more, rank_at}
use Rattle.wcet_report.proofs.sorting.ranks_of.Goals as goal

pub loop-index-preserved : goal.loop-index-preserved
loop-index-preserved c =
    rw c.in_ok-push.ensures.items
    (ranks_more c.args.list.now c.loop-index.index c.loop-index.ranks.items c.in_ok-rank.rank c.loop-index.invariant
    (rank_at c.args.list.now c.loop-index.index c.index-list-index.result c.in_ok-rank.rank c.loop-index-test.true
    c.index-list-index.is c.in_ok-rank.ensures))
