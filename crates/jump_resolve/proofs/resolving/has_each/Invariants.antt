use Rattle.std.proofs.Common.{◌≡◌, ℕ, ◌%◌, ◌<◌, get_or, Contains}
use Rattle.jump_resolve.proofs.resolving.has_each.Given as goal

abbrev pub invariant-loop-word : goal.invariant-loop-word
invariant-loop-word l = (k : ℕ) → k < l.word-index → get_or l.words k 0 % 4 ≡ 0 → Contains l.list (get_or l.words k 0)
