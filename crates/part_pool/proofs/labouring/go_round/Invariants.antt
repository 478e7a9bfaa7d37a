use Rattle.std.proofs.Common.{◌≡◌}
use Rattle.part_pool.proofs.labouring.go_round.Given as goal

abbrev pub invariant-loop-n : goal.invariant-loop-n
invariant-loop-n g l = l.seat ≡ l.fn.seat
