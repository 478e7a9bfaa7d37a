-- The numbers that words are.
use Rattle.std.specs.Prelude.{◌==◌, ℕ, ◌+◌, ◌*◌, ℤ, pos, neg_ℤ, Bool, ◌&&◌, nat_le, if◌then◌else◌, List, [], ◌∷◌, length, fold, Option, Some, None}
use Rattle.std.specs.Char.{is_ascii_hexdigit, digit_value}
use Rattle.std.specs.List.{list_all}
use Rattle.std.specs.Option.{option_map}
use Rattle.line_text.specs.LineText.{cut_at}
use Rattle.line_text.specs.Numeral.{number_up_to}

-- a number other than 0
abbrev pub some_count : Option ℕ → Option ℕ
some_count None = None
some_count (Some count) = if count == 0 then None else Some count

-- the count that a word is: decimal digits, from 1 to 2^62 - 1
abbrev pub count_of : List ℕ → Option ℕ
count_of word = some_count (number_up_to 4611686018427387903 word)

-- the integer that decimal digits are behind a `-`
abbrev pub negative_of : List ℕ → Option ℤ
negative_of digits = option_map (λ number. neg_ℤ (pos number)) (number_up_to 2147483648 digits)

-- the integer of 32 bits with sign that a word is: decimal digits, behind a `-` or not
abbrev pub int_of : List ℕ → Option ℤ
int_of [] = None
int_of (sign ∷ digits) = if sign == 45 then negative_of digits else option_map pos (number_up_to 2147483647 (sign ∷ digits))

-- two integers, where both are
abbrev pub both : Option ℤ → Option ℤ → Option (ℤ × ℤ)
both None hi = None
both (Some lo) None = None
both (Some lo) (Some hi) = Some (lo, hi)

-- the integers of a range whose first `.` stands between these: another one follows it
abbrev pub range_from : List ℕ → List ℕ → Option (ℤ × ℤ)
range_from lo [] = None
range_from lo (dot ∷ hi) = if dot == 46 then both (int_of lo) (int_of hi) else None

abbrev pub range_at : Option (List ℕ × List ℕ) → Option (ℤ × ℤ)
range_at None = None
range_at (Some (lo, rest)) = range_from lo rest

-- the two integers that a word is with `..` between them; no integer has a `.`
abbrev pub range_of : List ℕ → Option (ℤ × ℤ)
range_of word = range_at (cut_at 46 word)

-- one to eight hexadecimal digits of either case
abbrev pub is_hex : List ℕ → Bool
is_hex digits = (nat_le 1 (length digits) && nat_le (length digits) 8) && list_all is_ascii_hexdigit digits

-- the value of hexadecimal digits
abbrev pub hex_value : List ℕ → ℕ
hex_value digits = fold (λ value digit. value * 16 + digit_value digit) 0 digits

-- the number that a word is in hexadecimal: `0x` and one to eight digits
abbrev pub hex_of : List ℕ → Option ℕ
hex_of (o ∷ x ∷ digits) = if (o == 48 && x == 120) && is_hex digits then Some (hex_value digits) else None
hex_of _ = None
