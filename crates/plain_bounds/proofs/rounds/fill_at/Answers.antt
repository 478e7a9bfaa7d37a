use Rattle.std.proofs.Common.{◌≡◌, ◌<◌, length, arith}
use Rattle.plain_parts.proofs.Searched.{filled_set, none_at_index}
use Rattle.plain_bounds.proofs.rounds.fill_at.Goals as goal

pub returns-in-Some-clause-more : goal.returns-in-Some-clause-more
returns-in-Some-clause-more c = λ yes.
    let count : length c.args.table.now.items ≡ length c.args.contexts.now.subs.items = c.requires.known.count in
    let within : c.args.number < length c.args.table.now.items = omega (arith, count, c.requires.within) in
    filled_set c.args.table.now.items c.args.number c.in-Some.bound within
    (none_at_index c.args.table.now.items c.args.number c.index.result.now within c.index.ensures (c.if-is_some.ensures {u = tt}))
