use Rattle.std.proofs.Common.{ℕ, ◌<◌, get_or, Contains}
use Rattle.value_lattice.proofs.comparing.are_among.Given as goal

abbrev pub invariant-loop-word : goal.invariant-loop-word
invariant-loop-word l = (k d : ℕ) → k < l.word-index → Contains l.set (get_or l.words k d)
