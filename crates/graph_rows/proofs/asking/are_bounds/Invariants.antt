use Rattle.std.proofs.Common.{◌≤◌, ◌<◌, ℕ, get_or}
use Rattle.graph_rows.proofs.asking.are_bounds.Given as goal

-- the bounds gone through are at least 1
abbrev pub invariant-loop-bound : goal.invariant-loop-bound
invariant-loop-bound l = (k : ℕ) → k < l.bound-index → 1 ≤ get_or l.bounds k 0
