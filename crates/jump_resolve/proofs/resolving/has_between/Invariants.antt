use Rattle.std.proofs.Common.{ℕ, ◌*◌, ◌<◌, ◌≤◌, Contains}
use Rattle.value_lattice.specs.Order.{word_at}
use Rattle.jump_resolve.proofs.resolving.has_between.Given as goal

abbrev pub invariant-loop-q : goal.invariant-loop-q
invariant-loop-q l = (k : ℕ) → l.low ≤ 4 * k → k < l.q → Contains l.list (word_at (4 * k))
