-- A search in a row that rises tells whether a number is there.
use Rattle.std.proofs.Common.{◌≡◌, ◌≢◌, ◌==◌, ℕ, ◌<◌, inl, inr, false, List, get_or, Result, Ok, Err, sym, arith}
use Rattle.std.specs.Prelude.{is_ok}
use Rattle.std.specs.Ordering.{nat_cmp}
use Rattle.std.specs.List.Sorted.{IsStrictlyIncreasing, IsBinarySearchResult}
use Rattle.std.proofs.lemmas.List.Folds.{list_any_at, list_any_none}
use Rattle.std.proofs.lemmas.List.Sorted.{searched}
use Rattle.std.proofs.lemmas.Grind.{get_or_default_zero}
use Rattle.std.proofs.lemmas.Bool.{cases_lt, eq-eqb}
use Rattle.std.proofs.lemmas.Bool.Decides.{eqb_tells}
use Rattle.bt_base.specs.Graph.{has}
use Rattle.bt_base.proofs.Rows.{rising_apart}

other : (x y : ℕ) → x ≢ y → (x == y) ≡ false
other x y ne = elim (eqb_tells x y) [ inl a ↦ absurd (ne a.1) | inr a ↦ a.0 ]

-- a search finds exactly what rising numbers have
pub found_is_there : (xs : List ℕ) (x : ℕ) (r : Result ℕ ℕ) → IsStrictlyIncreasing xs → IsBinarySearchResult (λ y. nat_cmp y x) xs r → is_ok r ≡ has xs x
found_is_there xs x (Ok i) up s =
    let found = searched xs x (Ok i) s (rising_apart xs up) in
    sym (list_any_at (λ m. x == m) xs i 0 found.0 (eq-eqb x (get_or xs i 0) (sym found.1)))
found_is_there xs x (Err i) up s =
    let found = searched xs x (Err i) s (rising_apart xs up) in
    sym (list_any_none (λ m. x == m) xs (λ k d l.
    let e : get_or xs k d ≡ get_or xs k 0 = get_or_default_zero xs k d l in
    other x (get_or xs k d) (λ q. elim (cases_lt k i) [
      | inl a ↦ let f : get_or xs k 0 < x = found.1 k a in omega (arith, e, f, q)
      | inr a ↦ let f : x < get_or xs k 0 = found.2 k a l in omega (arith, e, f, q)
    ])))
