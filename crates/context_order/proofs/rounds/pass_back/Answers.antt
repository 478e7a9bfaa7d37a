use Rattle.std.proofs.Common.{◌<◌, ◌-◌, length, get_or, arith}
use Rattle.context_order.proofs.rounds.pass_back.Goals as goal
use Rattle.cyclic_parts.proofs.Lists.{has_at}

pub fill_at-requires-clause-within : goal.fill_at-requires-clause-within
fill_at-requires-clause-within c =
    let low : length c.args.order.now - 1 - c.loop-place.place < length c.args.order.now = omega (arith, c.loop-place-test.true) in
    c.requires.order (get_or c.args.order.now (length c.args.order.now - 1 - c.loop-place.place) 0)
    (has_at c.args.order.now (length c.args.order.now - 1 - c.loop-place.place) low)
