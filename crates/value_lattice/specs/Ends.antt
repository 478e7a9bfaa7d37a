-- The least and the greatest of what a value stands for, by their places.
use Rattle.std.specs.Prelude.{◌≡◌, ℕ, min, max, List, [], ◌∷◌, Contains}
use Rattle.value_lattice.specs.Order.{place_of, word_at, rank_of}
use Rattle.value_lattice.specs.Value.{IsBetween}
use Rattle.value_lattice.specs.declared.value.Value.{Value}
use Rattle.value_lattice.specs.declared.value.Value.TheVariants.{Words, Range, Ret}

-- all words stand between two places, and words of them at both
pub record AreEndsOf (words : List ℕ) (low high : ℕ) : Type 0 where
  pub between : (w : ℕ) → Contains words w → IsBetween low high w
  pub least : Contains words (word_at low)
  pub greatest : Contains words (word_at high)

-- the ends of a value; those of all words for the return address
abbrev pub AreEnds : Value → ℕ → ℕ → Type 0
AreEnds (Words words) low high = AreEndsOf words low high
AreEnds (Range lo hi) low high = (low ≡ rank_of lo) × (high ≡ rank_of hi)
AreEnds Ret low high = (low ≡ 0) × (high ≡ 4294967295)

-- the least and the greatest place of words
abbrev pub least_place : List ℕ → ℕ
least_place [] = 4294967295
least_place (w ∷ ws) = min (place_of w) (least_place ws)

abbrev pub greatest_place : List ℕ → ℕ
greatest_place [] = 0
greatest_place (w ∷ ws) = max (place_of w) (greatest_place ws)

-- the place of the least word of a value, and that of the greatest
unfoldable pub low_end : Value → ℕ
low_end (Words words) = least_place words
low_end (Range lo hi) = rank_of lo
low_end Ret = 0

unfoldable pub high_end : Value → ℕ
high_end (Words words) = greatest_place words
high_end (Range lo hi) = rank_of hi
high_end Ret = 4294967295
