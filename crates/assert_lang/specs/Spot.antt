-- The places that words are.
use Rattle.std.specs.Prelude.{◌==◌, ℕ, Bool, false, ◌&&◌, ◌||◌, if◌then◌else◌, List, [], ◌∷◌, Option, Some, None}
use Rattle.std.specs.Char.{is_ascii_alphabetic, is_ascii_digit}
use Rattle.std.specs.List.{list_all}
use Rattle.std.specs.Option.{option_map}
use Rattle.line_text.specs.LineText.{cut_at}
use Rattle.assert_lang.specs.Number.{hex_of}
use Rattle.assert_lang.specs.declared.spot.Spot.{Spot}
use Rattle.assert_lang.specs.declared.spot.Spot.TheVariants.{Name, Offset, Addr}

-- a byte with which a name may begin: a letter, `_`, `.` or `$`
abbrev pub begins_name : ℕ → Bool
begins_name b = is_ascii_alphabetic b || ((b == 95 || b == 46) || b == 36)

-- a byte that may follow: those and digits
abbrev pub goes_on : ℕ → Bool
goes_on b = begins_name b || is_ascii_digit b

abbrev pub is_name : List ℕ → Bool
is_name [] = false
is_name (first ∷ more) = begins_name first && list_all goes_on more

-- the place that a word without a `+` is: a name or an address
abbrev pub plain_spot : List ℕ → Option Spot
plain_spot word = if is_name word then Some (Name word) else option_map Addr (hex_of word)

-- the place of a name and an offset
abbrev pub offset_spot : List ℕ → List ℕ → Option Spot
offset_spot name offset = if is_name name then option_map (Offset name) (hex_of offset) else None

abbrev pub spot_at : List ℕ → Option (List ℕ × List ℕ) → Option Spot
spot_at word None = plain_spot word
spot_at word (Some (name, offset)) = offset_spot name offset

-- the place that a word is: a name, a name and an offset in hexadecimal with `+` between them, or an address
-- in hexadecimal
abbrev pub spot_of : List ℕ → Option Spot
spot_of word = spot_at word (cut_at 43 word)
