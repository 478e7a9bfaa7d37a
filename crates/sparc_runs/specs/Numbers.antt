-- What shifts with sign and condition codes mean in numbers. The key of a word is its value with sign, plus 2 ^ 31.
use Rattle.std.specs.Prelude.{◌≡◌, ℕ, ◌+◌, ◌*◌, ◌%◌, ◌^◌, ◌<◌, ◌≤◌, Bool, true, false, if◌then◌else◌, ◌↔◌}
use Rattle.word_ops.specs.Flags.{sum_flags_of, difference_flags_of, logic_flags_of}
use Rattle.word_ops.specs.Word.{key, bit_of, sum_of, difference_of, shifted_right_signed}
use Rattle.word_ops.specs.declared.arithmetic.Flags.{Flags}

-- a word shifted right with its sign is its value divided by the power of two, rounded down: so many times the power
-- is at most the value, and one time more is above it
pub record IsQuotient (power x result : ℕ) : Type 0 where
  pub word : result < 2 ^ 32
  pub least : key result * power + 2 ^ 31 ≤ key x + 2 ^ 31 * power
  pub most : key x + 2 ^ 31 * power < key result * power + power + 2 ^ 31

abbrev pub ShiftsDivide : Type 0
ShiftsDivide = (x count : ℕ) → x < 2 ^ 32 → IsQuotient (2 ^ (count % 32)) x (shifted_right_signed x count)

-- what N and Z say of a result: its value is below 0, and it is 0
pub record SaysResult (word : ℕ) (f : Flags) : Type 0 where
  pub negative : (f.n ≡ true) ↔ (key word < 2 ^ 31)
  pub zero : (f.z ≡ true) ↔ (word ≡ 0)

-- after a sum: C is the carry out of the sum without sign, and V is clear exactly where the result's value is the sum of
-- the values and the carry in
pub record SaysSum (x y : ℕ) (carry : Bool) (f : Flags) : Type 0 where
  pub result : SaysResult (sum_of x y carry) f
  pub carries : x + y + bit_of carry ≡ sum_of x y carry + (if f.c then 2 ^ 32 else 0)
  pub overflows : (f.v ≡ false) ↔ (key (sum_of x y carry) + 2 ^ 31 ≡ key x + key y + bit_of carry)

-- after a difference: C is the borrow, and V is clear exactly where the result's value is the difference of the values
-- and the borrow
pub record SaysDifference (x y : ℕ) (borrow : Bool) (f : Flags) : Type 0 where
  pub result : SaysResult (difference_of x y borrow) f
  pub borrows : x + (if f.c then 2 ^ 32 else 0) ≡ difference_of x y borrow + y + bit_of borrow
  pub overflows : (f.v ≡ false) ↔ (key (difference_of x y borrow) + key y + bit_of borrow ≡ key x + 2 ^ 31)

abbrev pub SumsAreMeant : Type 0
SumsAreMeant = (x y : ℕ) (carry : Bool) → x < 2 ^ 32 → y < 2 ^ 32 → SaysSum x y carry (sum_flags_of x y carry)

abbrev pub DifferencesAreMeant : Type 0
DifferencesAreMeant = (x y : ℕ) (borrow : Bool) → x < 2 ^ 32 → y < 2 ^ 32 → SaysDifference x y borrow (difference_flags_of x y borrow)

-- the condition codes of a logical operation are those of its result less 0
abbrev pub LogicIsDifference : Type 0
LogicIsDifference = (word : ℕ) → word < 2 ^ 32 → logic_flags_of word ≡ difference_flags_of word 0 false
