-- What is left of a value.
use Rattle.std.specs.Prelude.{◌==◌, ◌≡◌, ℕ, ◌%◌, ◌^◌, ◌<◌, ◌&&◌, Bool, true, false, not, List, Option, Some, if◌then◌else◌}
use Rattle.value_lattice.specs.Value.{IsBetween, MayHave, IsLeastOrNone, is_zero}
use Rattle.value_lattice.specs.Least.{least_of}
use Rattle.value_lattice.specs.Passing.{passes_some}
use Rattle.value_lattice.specs.Test.{is_placed, may_have}
use Rattle.value_lattice.specs.declared.value.Value.{Value}
use Rattle.word_ops.specs.Condition.{holds_of}
use Rattle.word_ops.specs.Flags.{difference_flags_of}

-- a word of the left side with which some word of the right side makes the condition what it is to be, once the
-- two were compared
pub record IsPossible (condition : ℕ) (truth : Bool) (left right : Value) (x : ℕ) : Type 0 where
  pub has : MayHave left x
  pub other : ℕ
  pub fits : other < 2 ^ 32
  pub there : MayHave right other
  pub is : holds_of condition (difference_flags_of x other false) ≡ truth

-- a word of a value with its place between two places
pub record IsWithin (v : Value) (low high w : ℕ) : Type 0 where
  pub has : MayHave v w
  pub between : IsBetween low high w

-- The conditions that leave the left side as it is: overflow and its negation, and the sign of a difference but
-- that with 0.
abbrev pub is_left_alone : ℕ → Value → Bool
is_left_alone condition right =
    if condition % 8 == 7 then true else (if condition % 8 == 6 then not (is_zero right) else false)

-- what is left of the left side where the condition is true, or is false
pub record IsRefined (t : List ℕ) (condition : ℕ) (truth : Bool) (left right : Value) (result : Option Value) : Type 0 where
  pub alone : is_left_alone condition right ≡ true → result ≡ Some left
  pub rest : is_left_alone condition right ≡ false → IsLeastOrNone t (IsPossible condition truth left right) result

-- a test answers as it is to
abbrev pub answers : Bool → Bool → Bool
answers b true = b
answers b false = not b

-- a word makes the condition what it is to be, once another was taken from it
abbrev pub makes : ℕ → Bool → ℕ → ℕ → Bool
makes condition truth x y = answers (holds_of condition (difference_flags_of x y false)) truth

-- a word of the left side, with which some word of the right side makes the condition what it is to be
abbrev pub is_possible : ℕ → Bool → Value → Value → ℕ → Bool
is_possible condition truth left right x = may_have left x && passes_some (λ y. may_have right y && makes condition truth x y)

-- what is left of the left side, as a function
unfoldable pub refine : List ℕ → ℕ → Bool → Value → Value → Option Value
refine t condition truth left right =
    if is_left_alone condition right then Some left else least_of t (is_possible condition truth left right)

-- a word of a value with its place between two places
abbrev pub is_within : Value → ℕ → ℕ → ℕ → Bool
is_within v low high w = may_have v w && is_placed low high w

-- what is left of a value between two places, as a function
unfoldable pub within : List ℕ → Value → ℕ → ℕ → Option Value
within t v low high = least_of t (is_within v low high)

-- The condition over the flags of the difference the other way round. Condition 8 stands for those that no
-- condition over the other flags says.
abbrev pub mirror_of : ℕ → ℕ
mirror_of condition =
    if condition == 0 then 0
    else (if condition == 1 then 1
    else (if condition == 2 then 11
    else (if condition == 3 then 10
    else (if condition == 4 then 13
    else (if condition == 5 then 12
    else (if condition == 9 then 9
    else (if condition == 10 then 3
    else (if condition == 11 then 2
    else (if condition == 12 then 5
    else (if condition == 13 then 4
    else 8))))))))))
