-- Sets of words.
use Rattle.std.specs.Prelude.{ℕ, ◌^◌, ◌<◌, ◌≤◌, ◌&&◌, Bool, true, List, [], ◌∷◌, length, nat_lt, nat_le, All}
use Rattle.std.specs.List.{list_all}
use Rattle.std.specs.List.Sorted.{IsStrictlyIncreasing}

-- 1 to 128 different words, rising
pub record IsSet (words : List ℕ) : Type 0 where
  pub some : 0 < length words
  pub few : length words ≤ 128
  pub rising : IsStrictlyIncreasing words
  pub fits : All (λ w. w < 2 ^ 32) words

-- the number is below the first of a list, and each of them below the next
abbrev pub rises_from : ℕ → List ℕ → Bool
rises_from x [] = true
rises_from x (y ∷ ys) = nat_lt x y && rises_from y ys

-- each number is below the next
abbrev pub rises : List ℕ → Bool
rises [] = true
rises (x ∷ xs) = rises_from x xs

-- whether these are 1 to 128 different words, rising
unfoldable pub is_set : List ℕ → Bool
is_set words = nat_lt 0 (length words) && (nat_le (length words) 128 && (rises words && list_all (λ w. nat_lt w (2 ^ 32)) words))
