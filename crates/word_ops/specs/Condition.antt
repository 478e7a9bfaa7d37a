-- The sixteen conditions that a branch tests, over the condition codes.
use Rattle.std.specs.Prelude.{◌==◌, ◌≡◌, ℕ, ◌-◌, ◌^◌, ◌<◌, Bool, true, false, not, ◌||◌, nat_lt, nat_le, if◌then◌else◌}
use Rattle.word_ops.specs.Flags.{difference_flags_of}
use Rattle.word_ops.specs.Word.{key}
use Rattle.word_ops.specs.declared.arithmetic.Flags.{Flags}

-- exactly one of two
abbrev pub differ : Bool → Bool → Bool
differ true b = not b
differ false b = b

-- the first eight: never, equal, less or equal, less, less or equal without sign, carry set, negative, overflow
abbrev pub first_eight : ℕ → Flags → Bool
first_eight condition f =
    if condition == 0 then false
    else (if condition == 1 then f.z
    else (if condition == 2 then f.z || differ f.n f.v
    else (if condition == 3 then differ f.n f.v
    else (if condition == 4 then f.c || f.z
    else (if condition == 5 then f.c
    else (if condition == 6 then f.n
    else f.v))))))

-- the others are their negations, in the same order
abbrev pub holds_of : ℕ → Flags → Bool
holds_of condition f = if nat_lt condition 8 then first_eight condition f else not (first_eight (condition - 8) f)

-- after a comparison l and le are the orders with sign, and their negations ge and g
abbrev pub ComparisonIsSignedOrder : Type 0
ComparisonIsSignedOrder =
    (x y : ℕ) → x < 2 ^ 32 → y < 2 ^ 32
    → (holds_of 3 (difference_flags_of x y false) ≡ nat_lt (key x) (key y)) × (holds_of 2 (difference_flags_of x y false) ≡ nat_le (key x) (key y))

-- after a comparison cs and leu are the orders without sign, and their negations cc and gu
abbrev pub ComparisonIsUnsignedOrder : Type 0
ComparisonIsUnsignedOrder =
    (x y : ℕ) → x < 2 ^ 32 → y < 2 ^ 32
    → (holds_of 5 (difference_flags_of x y false) ≡ nat_lt x y) × (holds_of 4 (difference_flags_of x y false) ≡ nat_le x y)

-- after a comparison e is equality, and its negation ne
abbrev pub ComparisonIsEquality : Type 0
ComparisonIsEquality =
    (x y : ℕ) → x < 2 ^ 32 → y < 2 ^ 32 → holds_of 1 (difference_flags_of x y false) ≡ (x == y)
