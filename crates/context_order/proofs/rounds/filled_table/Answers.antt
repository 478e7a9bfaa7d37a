use Rattle.std.proofs.Common.{◌≡◌, ◌≤◌, length, arith}
use Rattle.context_bounds.specs.Setting.{setting_of}
use Rattle.context_order.proofs.Filling.{filled_within}
use Rattle.context_order.proofs.Waiting.{all_answered}
use Rattle.context_order.specs.Filled.{filled}
use Rattle.context_order.proofs.rounds.filled_table.Goals as goal

pub returns-then-not-branch-clause-all : goal.returns-then-not-branch-clause-all
returns-then-not-branch-clause-all c =
    all_answered (setting_of c.args.system.now c.args.cycles.now c.args.whole.now) c.args.found.now c.pass_up.new.table.items c.in_ok-pass_up.ensures.filled
    (c.in_ok-pass_up.ensures.stuck c.if-not-branch.true)

pub returns-clause-all : goal.returns-clause-all
returns-clause-all c = λ n low.
    let most : filled c.loop-round.table.items ≤ length c.loop-round.table.items = filled_within c.loop-round.table.items in
    let count : length c.loop-round.table.items ≡ length c.args.found.now = c.loop-round.invariant.right.count in
    absurd (omega (arith, most, count, c.requires.count, c.loop-round.invariant.grows, c.loop-round.auto, c.loop-round-test.false))
