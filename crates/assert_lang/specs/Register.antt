-- The registers that words name.
use Rattle.std.specs.Prelude.{◌==◌, ℕ, ◌+◌, ◌-◌, ◌&&◌, nat_le, if◌then◌else◌, List, [], ◌∷◌, Option, Some, None, codes}
use Rattle.std.specs.Str.{bytes_eq}

-- the first register of a bank: the globals, the outs, the locals and the ins have eight each
abbrev pub first_of : ℕ → Option ℕ
first_of bank =
    if bank == 103 then Some 0 else (if bank == 111 then Some 8 else (if bank == 108 then Some 16 else (if bank == 105 then Some 24 else None)))

-- the register of a digit in the bank that begins with this one; register 0 isn't named
abbrev pub register_in : Option ℕ → ℕ → Option ℕ
register_in None digit = None
register_in (Some first) digit =
    if (nat_le 48 digit && nat_le digit 55) && nat_le 1 (first + (digit - 48)) then Some (first + (digit - 48)) else None

-- the register of a bank's letter and a digit: `%g1` to `%i7`
abbrev pub numbered : List ℕ → Option ℕ
numbered (sign ∷ bank ∷ digit ∷ []) = if sign == 37 then register_in (first_of bank) digit else None
numbered _ = None

-- the register that a word names; `%sp` is `%o6` and `%fp` is `%i6`
abbrev pub register_of : List ℕ → Option ℕ
register_of word = if bytes_eq word (codes "%sp") then Some 14 else (if bytes_eq word (codes "%fp") then Some 30 else numbered word)
