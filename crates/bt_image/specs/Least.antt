-- The least number at which something is found, and the least of what is found.
use Rattle.std.specs.Prelude.{ℕ, zero, suc, Bool, Option, Some, None, if◌then◌else◌}
use Rattle.std.specs.Option.{option_or}

-- what f gives at the least number below n at which it gives something
abbrev pub first_of : {X : Type 0} → (ℕ → Option X) → ℕ → Option X
first_of f zero = None
first_of f (suc n) = option_or (first_of f n) (f n)

-- the number where the test holds of it
abbrev pub where_true : Bool → ℕ → Option ℕ
where_true test n = if test then Some n else None

-- the least number below n that passes the test
abbrev pub first_passing : (ℕ → Bool) → ℕ → Option ℕ
first_passing test n = first_of (λ k. where_true (test k) k) n

-- the lesser of two, where there are two
abbrev pub lesser : {X : Type 0} → (X → X → Bool) → Option X → Option X → Option X
lesser less None y = y
lesser less (Some x) None = Some x
lesser less (Some x) (Some y) = if less y x then Some y else Some x

-- the least of what f gives at the numbers below n
abbrev pub least_of : {X : Type 0} → (X → X → Bool) → (ℕ → Option X) → ℕ → Option X
least_of less f zero = None
least_of less f (suc n) = lesser less (least_of less f n) (f n)
