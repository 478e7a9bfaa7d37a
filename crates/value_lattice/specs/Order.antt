-- The order of words that are read with sign, by natural numbers: the least number with sign has place 0.
use Rattle.std.specs.Prelude.{◌≡◌, ℕ, suc, ◌+◌, ◌-◌, ◌%◌, ◌^◌, ◌<◌, ◌≤◌, ◌↔◌, ℤ, pos, negsuc, ◌≤ℤ◌, FitsSigned, nat_le, if◌then◌else◌}
use Rattle.std.specs.Int.{cast_signed, w32}

-- the place of a word among all words as they are read with sign
abbrev pub place_of : ℕ → ℕ
place_of w = (w + 2 ^ 31) % 2 ^ 32

-- the word at a place
abbrev pub word_at : ℕ → ℕ
word_at k = (k + 2 ^ 31) % 2 ^ 32

-- the place of a number with sign
abbrev pub rank_of : ℤ → ℕ
rank_of (pos n) = n + 2 ^ 31
rank_of (negsuc n) = 2 ^ 31 - suc n

-- the number with sign at a place
abbrev pub number_at : ℕ → ℤ
number_at k = if nat_le (2 ^ 31) k then pos (k - 2 ^ 31) else negsuc (2 ^ 31 - 1 - k)

-- the place of a word is that of the number that it is read as
abbrev pub PlacesAreSigned : Type 0
PlacesAreSigned = (w : ℕ) → w < 2 ^ 32 → place_of w ≡ rank_of (cast_signed w32 w)

-- places are ordered as the numbers are
abbrev pub RanksKeepOrder : Type 0
RanksKeepOrder = (x y : ℤ) → FitsSigned w32 x → FitsSigned w32 y → x ≤ℤ y ↔ (rank_of x ≤ rank_of y)
