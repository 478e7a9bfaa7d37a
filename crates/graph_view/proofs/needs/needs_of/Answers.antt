use Rattle.std.proofs.Common.{◌≡◌, ◌≤◌, ◌+◌, length, arith}
use Rattle.graph_view.proofs.Filling.{all_needs}
use Rattle.graph_view.proofs.Known.{filled_within}
use Rattle.graph_view.proofs.needs.needs_of.Goals as goal
use Rattle.graph_view.specs.Need.{filled}

pub returns-then-not-pass_up : goal.returns-then-not-pass_up
returns-then-not-pass_up c =
    all_needs c.args.places.now c.args.callings.now c.args.subs.now c.requires.counted c.pass_up.new.table.items c.pass_up.ensures.right
    (c.pass_up.ensures.stuck c.if-not-pass_up.true)

pub returns : goal.returns
returns c =
    let most : filled c.loop-round.table.items ≤ length c.loop-round.table.items = filled_within c.loop-round.table.items in
    let count : length c.loop-round.table.items ≡ length c.args.subs.now = c.loop-round.invariant.right.count in
    let rounds : c.loop-round._round ≤ filled c.loop-round.table.items = c.loop-round.invariant.grows in
    let ended : length c.args.subs.now + 1 ≤ c.loop-round._round = c.loop-round-test.false in
    absurd (omega (arith, most, count, rounds, ended))
