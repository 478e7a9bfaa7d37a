use Rattle.std.proofs.Common.{◌≡◌, ◌≤◌, ℕ, length, get_or}
use Rattle.counter_bound.specs.Body.{AreDowns}
use Rattle.counter_bound.proofs.summing.downs_of.Given as goal

-- the nodes gone through
abbrev pub invariant-loop-place : goal.invariant-loop-place
invariant-loop-place l = record {
  count : length l.downs.items ≡ l.place;
  are : AreDowns l.body l.changes l.c l.downs.items;
  most : (n : ℕ) → get_or l.downs.items n 0 ≤ 2147483648;
}
