use Rattle.std.proofs.Common.{◌≡◌}
use Rattle.part_pool.proofs.labouring.labour.Given as goal

abbrev pub invariant-loop-turn : goal.invariant-loop-turn
invariant-loop-turn g l = l.seat ≡ l.fn.seat
