use Rattle.std.proofs.Common.{◌≡◌, ◌≤◌, ℕ, length, get_or}
use Rattle.counter_bound.specs.Body.{AreUps}
use Rattle.counter_bound.proofs.summing.ups_of.Given as goal

-- the nodes gone through
abbrev pub invariant-loop-place : goal.invariant-loop-place
invariant-loop-place l = record {
  count : length l.ups.items ≡ l.place;
  are : AreUps l.body l.changes l.c l.ups.items;
  most : (n : ℕ) → get_or l.ups.items n 0 ≤ 2147483647;
}
