use Rattle.std.proofs.Common.{◌≡◌}
use Rattle.part_pool.proofs.labouring.tend.Given as goal

abbrev pub invariant-loop-m : goal.invariant-loop-m
invariant-loop-m g l = l.seat ≡ l.fn.seat
