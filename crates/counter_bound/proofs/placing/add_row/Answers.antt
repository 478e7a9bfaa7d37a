use Rattle.std.proofs.Common.{get_or}
use Rattle.turn_sums.proofs.Lists.{has_at}
use Rattle.counter_bound.proofs.placing.add_row.Goals as goal

pub next-next-items-requires : goal.next-next-items-requires
next-next-items-requires c = c.requires.nodes (get_or c.args.body.now c.args.place 0) (has_at c.args.body.now c.args.place c.requires.place)
