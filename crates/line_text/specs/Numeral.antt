-- The number that a word is in decimal.
use Rattle.std.specs.Prelude.{◌==◌, ℕ, ◌+◌, ◌-◌, ◌*◌, Bool, not, ◌&&◌, nat_le, if◌then◌else◌, List, length, fold, Option, Some, None}
use Rattle.std.specs.List.{list_all}
use Rattle.std.specs.Char.{is_ascii_digit}

-- decimal digits, at least one
abbrev pub is_decimal : List ℕ → Bool
is_decimal word = not (length word == 0) && list_all is_ascii_digit word

-- the value of decimal digits
abbrev pub value_of : List ℕ → ℕ
value_of word = fold (λ value digit. value * 10 + (digit - 48)) 0 word

-- the number that a word is, judged by its value, if it is one and not too great
abbrev pub number_up_to : ℕ → List ℕ → Option ℕ
number_up_to most word = if is_decimal word && nat_le (value_of word) most then Some (value_of word) else None
