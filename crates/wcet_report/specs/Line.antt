-- Lines of words, and how a name is shown in one.
use Rattle.std.specs.Prelude.{ℕ, List, [], ◌∷◌, ◌++◌, ◌==◌, ◌&&◌, not, drop, Option, Some, None, codes, nat_le, if◌then◌else◌}
use Rattle.std.specs.List.{flat_map}
use Rattle.bt_base.specs.Text.{hex8_of}
use Rattle.bt_image.specs.Symbol.{name_of}

-- words, each behind a space
abbrev pub spaced : List (List ℕ) → List ℕ
spaced words = flat_map (λ word. 32 ∷ word) words

-- the line of a word and those behind it, parted by single spaces, with its end
unfoldable pub line_of : List ℕ → List (List ℕ) → List ℕ
line_of first rest = first ++ (spaced rest ++ codes "\n")

-- a byte of a name: visible ASCII but the backslash as it is, any other as a backslash and two hexadecimal digits
abbrev pub shown_byte : ℕ → List ℕ
shown_byte b = if nat_le 33 b && (nat_le b 126 && not (b == 92)) then b ∷ [] else 92 ∷ drop 6 (hex8_of b)

-- a name as it is shown
abbrev pub shown : List ℕ → List ℕ
shown name = flat_map shown_byte name

-- the name of the function at an address as it is shown, or a hyphen where there is none
abbrev pub shown_name : Option (List ℕ) → List ℕ
shown_name None = codes "-"
shown_name (Some name) = shown name

-- the words of the function at an address: the address and its name
unfoldable pub function_words : List ℕ → ℕ → List (List ℕ)
function_words image entry = hex8_of entry ∷ shown_name (name_of image entry) ∷ []
