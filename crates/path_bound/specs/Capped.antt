-- Costs up to a limit.
use Rattle.std.specs.Prelude.{ℕ, ◌^◌, min}

-- more than any cost that is told as it is
abbrev pub limit : ℕ
limit = 2 ^ 63

-- a cost, or the limit where it is more
abbrev pub cap : ℕ → ℕ
cap cost = min cost limit

-- a cost as it is
abbrev pub exact : ℕ → ℕ
exact cost = cost
