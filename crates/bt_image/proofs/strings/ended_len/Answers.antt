use Rattle.std.proofs.Common.{arith}
use Rattle.bt_image.proofs.StringLemmas.{ended-before}
use Rattle.bt_image.proofs.strings.ended_len.Goals as goal

pub returns-clause-ended : goal.returns-clause-ended
returns-clause-ended c = λ at.
    let strings = c.args.strings.now in
    ended-before strings c.loop-i.ended at (omega (arith, c.loop-i.invariant.low)) c.loop-i.invariant.zero_before
    (λ k le lt. c.loop-i.invariant.none_behind k le (omega arith))
