-- Numbers as text and in bytes.
use Rattle.std.specs.Prelude.{ℕ, ◌+◌, ◌/◌, ◌%◌, ◌^◌, List, [], ◌∷◌, nat_lt, if◌then◌else◌}

-- the lower-case hexadecimal digit of a number below 16, as its code
abbrev pub hex_digit : ℕ → ℕ
hex_digit d = if nat_lt d 10 then 48 + d else 87 + d

-- eight hexadecimal digits, the highest first
abbrev pub hex8_of : ℕ → List ℕ
hex8_of v =
    hex_digit (v / 2 ^ 28 % 16) ∷ hex_digit (v / 2 ^ 24 % 16) ∷ hex_digit (v / 2 ^ 20 % 16) ∷ hex_digit (v / 2 ^ 16 % 16)
    ∷ hex_digit (v / 2 ^ 12 % 16) ∷ hex_digit (v / 2 ^ 8 % 16) ∷ hex_digit (v / 2 ^ 4 % 16) ∷ hex_digit (v % 16) ∷ []
