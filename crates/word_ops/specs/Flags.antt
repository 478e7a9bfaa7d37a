-- The condition codes that an operation sets.
use Rattle.std.specs.Prelude.{◌==◌, ℕ, ◌^◌, Bool, false, nat_le}
use Rattle.word_ops.specs.Word.{sum_of, sum_overflows, carries, difference_of, difference_overflows, borrows}
use Rattle.word_ops.specs.declared.arithmetic.Flags.{Flags}

-- N is bit 31 of the result, and Z says that it is 0
abbrev pub flags_of : ℕ → Bool → Bool → Flags
flags_of word overflow carry = record { n = nat_le (2 ^ 31) word; z = word == 0; v = overflow; c = carry }

-- after a sum: V is overflow with sign, C the carry out
abbrev pub sum_flags_of : ℕ → ℕ → Bool → Flags
sum_flags_of x y carry = flags_of (sum_of x y carry) (sum_overflows x y carry) (carries x y carry)

-- after a difference: V is overflow with sign, C the borrow
abbrev pub difference_flags_of : ℕ → ℕ → Bool → Flags
difference_flags_of x y borrow = flags_of (difference_of x y borrow) (difference_overflows x y borrow) (borrows x y borrow)

-- after a logical operation: V and C are 0
abbrev pub logic_flags_of : ℕ → Flags
logic_flags_of word = flags_of word false false
