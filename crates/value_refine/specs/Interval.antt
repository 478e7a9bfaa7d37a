-- Intervals of numbers of 32 bits.
use Rattle.std.specs.Prelude.{ℕ, ◌≤◌}
use Rattle.value_refine.specs.declared.interval.Interval.{Interval}

-- the number is in the interval
abbrev pub IsIn : Interval → ℕ → Type 0
IsIn i k = (i.low ≤ k) × (k ≤ i.high)
