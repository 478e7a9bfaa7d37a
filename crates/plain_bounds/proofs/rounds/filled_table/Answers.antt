use Rattle.std.proofs.Common.{◌≡◌, ◌≤◌, ◌+◌, length, vec_len, arith}
use Rattle.plain_bounds.proofs.rounds.filled_table.Goals as goal
use Rattle.plain_parts.proofs.Searched.{filled_within}
use Rattle.plain_parts.specs.Searched.{filled}

pub returns-clause-stuck : goal.returns-clause-stuck
returns-clause-stuck c =
    let most : filled c.loop-round.table.items ≤ length c.loop-round.table.items = filled_within c.loop-round.table.items in
    let count : length c.loop-round.table.items ≡ length c.args.contexts.now.subs.items = c.loop-round.invariant.known.count in
    let rounds : c.loop-round._round ≤ filled c.loop-round.table.items = c.loop-round.invariant.grows in
    let size : c.len-round-end.result ≡ vec_len c.args.contexts.now.subs = c.len-round-end.ensures in
    let items : vec_len c.args.contexts.now.subs ≡ length c.args.contexts.now.subs.items = c.args.contexts.now.subs.ok.0 in
    let ended : c.len-round-end.result + 1 ≤ c.loop-round._round = c.loop-round-test.false in
    absurd (omega (arith, most, count, rounds, size, items, ended))
