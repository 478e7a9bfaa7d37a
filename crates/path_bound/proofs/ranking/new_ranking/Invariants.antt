use Rattle.std.proofs.Common.{◌≡◌, ℕ, [], length}
use Rattle.path_bound.specs.Ranking.{waits_for}
use Rattle.path_bound.proofs.ranking.new_ranking.Given as goal

-- the rows so far are empty
abbrev pub invariant-loop-row : goal.invariant-loop-row
invariant-loop-row l = record {
  size : length l.waiting.items ≡ l._row;
  quiet : (n : ℕ) → waits_for l.waiting.items n ≡ [];
}
