-- What shifts with sign and condition codes mean in numbers, at small words. The word of a number below 0 is 2 ^ 32 more.
use Rattle.std.specs.Prelude.{◌≡◌, true, false}
use Rattle.sparc_runs.specs.Numbers.{IsQuotient, SaysSum, SaysDifference}
use Rattle.word_ops.specs.Word.{shifted_right_signed}
use Rattle.word_ops.specs.declared.arithmetic.Flags.{Flags}

-- -7, shifted by one, is -4: twice -4 is at most -7, and twice -3 is above it
pub record SevenIsHalved : Type 0 where
  pub shifted : shifted_right_signed 4294967289 1 ≡ 4294967292
  pub quotient : IsQuotient 2 4294967289 4294967292

-- the condition codes of an overflow with sign alone, and of a 0 with a carry or a borrow
abbrev pub overflow : Flags
overflow = record { n = true; z = false; v = true; c = false }

abbrev pub carry_and_zero : Flags
carry_and_zero = record { n = false; z = true; v = false; c = true }

-- 2 ^ 31 - 1 and one more is, as a word, -2 ^ 31, so V is set; -1 and one more is 0 with a carry, be it added or carried in
pub record OneIsAdded : Type 0 where
  pub greatest : SaysSum 2147483647 1 false overflow
  pub last : SaysSum 4294967295 1 false carry_and_zero
  pub carried : SaysSum 4294967295 0 true carry_and_zero

-- the condition codes of an overflow above the numbers with sign, and of a borrow
abbrev pub overflow_above : Flags
overflow_above = record { n = false; z = false; v = true; c = false }

abbrev pub borrow_below : Flags
borrow_below = record { n = true; z = false; v = false; c = true }

-- -2 ^ 31 less one is, as a word, 2 ^ 31 - 1, so V is set; 0 less one is -1 with a borrow, be it taken or borrowed before
pub record LesserIsTaken : Type 0 where
  pub least : SaysDifference 2147483648 1 false overflow_above
  pub first : SaysDifference 0 1 false borrow_below
  pub borrowed : SaysDifference 0 0 true borrow_below
