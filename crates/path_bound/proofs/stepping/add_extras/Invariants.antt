use Rattle.std.proofs.Common.{ℕ, ◌+◌, take}
use Rattle.path_bound.specs.Capped.{cap}
use Rattle.path_bound.specs.Places.{extra_of}
use Rattle.path_bound.specs.Steps.{AreRows, AreStepsOf}
use Rattle.path_bound.proofs.stepping.add_extras.Given as goal

-- the steps cost what the edges gone through cost beside
abbrev pub invariant-loop-from : goal.invariant-loop-from
invariant-loop-from l = record {
  rows : AreRows l.graph l.rows;
  added : (f : ℕ → ℕ → ℕ) → AreStepsOf l.graph (λ n m. cap (f n m)) l.initial.rows
      → AreStepsOf l.graph (λ n m. cap (f n m + extra_of (take l.from-index l.extra) n m)) l.rows;
}
