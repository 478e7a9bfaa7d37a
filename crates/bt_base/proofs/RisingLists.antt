-- Lists of numbers that rise: two of their numbers, their first and the rest, one more number behind them, a binary
-- search, and that what they have determines them.
use Rattle.std.proofs.Common.{◌≡◌, ℕ, suc, zero, ◌+◌, ◌<◌, ◌≤◌, ◌↔◌, true, List, [], ◌∷◌, ◌++◌, length, get_or, Contains, Result, Ok, Err, is_ok, nat_cmp}
use Rattle.std.proofs.Common.{refl, ◌∙◌, arith, ⊎_elim}
use Rattle.std.proofs.lemmas.Bool.{cases_lt, false≢true}
use Rattle.std.proofs.lemmas.Grind.{common_steps}
use Rattle.std.proofs.lemmas.List.{get_or_default}
use Rattle.std.proofs.lemmas.List.Kept.{AllPairs-from_increasing}
use Rattle.std.proofs.lemmas.List.Sorted.{searched}
use Rattle.std.specs.List.Sorted.{IsStrictlyIncreasing, IsBinarySearchResult}
use Rattle.bt_base.proofs.Rows.{rising_apart}

-- of two places the later has the greater number
pub rising_below : (xs : List ℕ) → IsStrictlyIncreasing xs → (i j : ℕ) → i < j → j < length xs → get_or xs i 0 < get_or xs j 0
rising_below xs rises i j lt within = AllPairs-from_increasing xs rises i j 0 lt within

-- a list with a greater number behind it rises
pub rising_push : (xs : List ℕ) (y : ℕ) → IsStrictlyIncreasing xs → ((k : ℕ) → k < length xs → get_or xs k 0 < y) → IsStrictlyIncreasing (xs ++ y ∷ [])
rising_push xs y rises below k within = let up = rises k in let low = below k in grind (arith, common_steps, up, low)

-- the rest of a rising list rises
pub rising_rest : (x : ℕ) (xs : List ℕ) → IsStrictlyIncreasing (x ∷ xs) → IsStrictlyIncreasing xs
rising_rest x xs rises k below = let next : suc k + 1 ≡ suc (k + 1) = omega arith in rw next at (rises (suc k) (omega arith))

-- what stands behind the first of a rising list is above it
pub rest_is_above : (x : ℕ) (xs : List ℕ) (w : ℕ) → IsStrictlyIncreasing (x ∷ xs) → Contains xs w → x < w
rest_is_above x xs w rises (k, within, is) =
    let up : get_or (x ∷ xs) 0 w < get_or (x ∷ xs) (suc k) w = AllPairs-from_increasing (x ∷ xs) rises 0 (suc k) w (omega arith) (omega arith) in
    omega (arith, up, is)

-- the first of a rising list is its least
pub first_is_least : (x : ℕ) (xs : List ℕ) (w : ℕ) → IsStrictlyIncreasing (x ∷ xs) → Contains (x ∷ xs) w → x ≤ w
first_is_least x xs w rises (zero, within, is) = omega (arith, is)
first_is_least x xs w rises (suc k, within, is) =
    let up : x < w = rest_is_above x xs w rises (k, omega arith, is) in
    omega arith

-- what is above the first stands behind it
pub in_rest : (x : ℕ) (xs : List ℕ) (w : ℕ) → Contains (x ∷ xs) w → x < w → Contains xs w
in_rest x xs w (zero, within, is) above = absurd (omega (arith, is))
in_rest x xs w (suc k, within, is) above = (k, omega arith, is)

-- the first of a list stands in it, and so does the rest
pub first_there : (x : ℕ) (xs : List ℕ) → Contains (x ∷ xs) x
first_there x xs = (0, omega arith, refl)

-- what the rest contains the list contains
pub rest_there : (x : ℕ) (xs : List ℕ) (w : ℕ) → Contains xs w → Contains (x ∷ xs) w
rest_there x xs w (k, within, is) = (suc k, omega arith, is)

-- rising lists that have the same numbers are the same
pub same_rising : (xs ys : List ℕ) → IsStrictlyIncreasing xs → IsStrictlyIncreasing ys → ((w : ℕ) → Contains xs w → Contains ys w)
    → ((w : ℕ) → Contains ys w → Contains xs w) → xs ≡ ys
same_rising [] [] rises others there back = refl
same_rising [] (y ∷ ys) rises others there back = absurd (omega (arith, (back y (first_there y ys)).1))
same_rising (x ∷ xs) [] rises others there back = absurd (omega (arith, (there x (first_there x xs)).1))
same_rising (x ∷ xs) (y ∷ ys) rises others there back =
    let up : y ≤ x = first_is_least y ys x others (there x (first_there x xs)) in
    let down : x ≤ y = first_is_least x xs y rises (back y (first_there y ys)) in
    let same : x ≡ y = omega arith in
    let rest : xs ≡ ys =
    same_rising xs ys (rising_rest x xs rises) (rising_rest y ys others)
    (λ w has. let above : x < w = rest_is_above x xs w rises has in in_rest y ys w (there w (rest_there x xs w has)) (omega arith))
    (λ w has. let above : y < w = rest_is_above y ys w others has in in_rest x xs w (back w (rest_there y ys w has)) (omega arith)) in
    cc

-- a binary search in a rising list finds what the list has, and nothing else
pub search_decides : (xs : List ℕ) (x : ℕ) (r : Result ℕ ℕ) → IsStrictlyIncreasing xs → IsBinarySearchResult (λ y. nat_cmp y x) xs r
    → (is_ok r ≡ true) ↔ Contains xs x
search_decides xs x (Ok i) rises result =
    let at : (i < length xs) × (get_or xs i 0 ≡ x) = searched xs x (Ok i) result (rising_apart xs rises) in
    (λ yes. (i, at.0, get_or_default xs i x 0 at.0 ∙ at.1), λ has. refl)
search_decides xs x (Err i) rises result =
    let gap = searched xs x (Err i) result (rising_apart xs rises) in (
      λ yes. absurd (false≢true yes),
      λ has.
          let at = get_or_default xs has.0 0 x has.1 ∙ has.2 in
          absurd (⊎_elim (λ early. let h = gap.1 has.0 early in omega arith) (λ late. let h = gap.2 has.0 late has.1 in omega arith) (cases_lt has.0 i)),
    )
