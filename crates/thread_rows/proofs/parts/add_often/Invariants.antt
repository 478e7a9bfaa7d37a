use Rattle.std.proofs.Common.{◌≡◌}
use Rattle.thread_rows.proofs.parts.add_often.Given as goal

-- the seat is as it came
abbrev pub invariant-loop-round : goal.invariant-loop-round
invariant-loop-round l = l.seat ≡ l.fn.seat
