use Rattle.wcet_report.proofs.Ranks.{orders_from}
use Rattle.wcet_report.proofs.sorting.in_order.Goals as goal

pub returns : goal.returns
returns c =
    orders_from c.args.list.now c.in_ok-ranks.ranks.items c.sort_unstable.new.self.items c.in_ok-ranks.ensures
    c.sort_unstable.ensures.permutation c.sort_unstable.ensures.sorted
