-- What passes a test stands in one piece of a list where it has neighbours only.
use Rattle.std.proofs.Common.{◌≡◌, ℕ, zero, suc, ◌+◌, ◌-◌, ◌<◌, ◌≤◌, Bool, true, false, List, [], ◌∷◌, length, take, drop, get_or, cond, refl, ap}
use Rattle.std.proofs.Common.{sym, ◌∙◌, arith, inl, inr}
use Rattle.std.proofs.lemmas.Bool.{cases_lt}
use Rattle.std.proofs.lemmas.Bool.Decides.{nat_tests}
use Rattle.std.specs.List.{filter}
use Rattle.std.specs.List.Sorted.{IsPartitionPoint}
use Rattle.std.specs.Prelude.{◌==◌, nat_le, nat_lt}
use Rattle.graph_view.specs.Subs.{of_one}

filter_skip : {X : Type 0} (p : X → Bool) (x : X) (xs : List X) → p x ≡ false → filter p (x ∷ xs) ≡ filter p xs
filter_skip p x xs fails = ap (λ b. cond b (x ∷ filter p xs) (filter p xs)) fails

filter_keep : {X : Type 0} (p : X → Bool) (x : X) (xs : List X) → p x ≡ true → filter p (x ∷ xs) ≡ x ∷ filter p xs
filter_keep p x xs passes = ap (λ b. cond b (x ∷ filter p xs) (filter p xs)) passes

-- where no item passes nothing is left
pub filter_none : {X : Type 0} (p : X → Bool) (xs : List X) → ((k : ℕ) (d : X) → k < length xs → p (get_or xs k d) ≡ false) → filter p xs ≡ []
filter_none p [] fails = refl
filter_none p (x ∷ xs) fails =
    filter_skip p x xs (fails 0 x (omega arith)) ∙ filter_none p xs (λ k d less. fails (suc k) d (omega (arith, less)))

-- where the items from one place on, so many, pass, and no others, these are left
pub filter_range : {X : Type 0} (p : X → Bool) (xs : List X) (low count : ℕ) → low + count ≤ length xs
    → ((k : ℕ) (d : X) → k < low → p (get_or xs k d) ≡ false)
    → ((k : ℕ) (d : X) → low ≤ k → k < low + count → p (get_or xs k d) ≡ true)
    → ((k : ℕ) (d : X) → low + count ≤ k → k < length xs → p (get_or xs k d) ≡ false) → filter p xs ≡ take count (drop low xs)
filter_range p xs zero zero fits before inside behind = filter_none p xs (λ k d less. behind k d (omega arith) less)
filter_range p [] zero (suc count) fits before inside behind = absurd (omega (arith, fits))
filter_range p (x ∷ xs) zero (suc count) fits before inside behind =
    filter_keep p x xs (inside 0 x (omega arith) (omega arith))
    ∙ ap (λ rest. x ∷ rest) (filter_range p xs 0 count (omega (arith, fits)) (λ k d less. absurd (omega (arith, less)))
    (λ k d low less. inside (suc k) d (omega arith) (omega (arith, less)))
    (λ k d past less. behind (suc k) d (omega (arith, past)) (omega (arith, less))))
filter_range p [] (suc low) count fits before inside behind = absurd (omega (arith, fits))
filter_range p (x ∷ xs) (suc low) count fits before inside behind =
    filter_skip p x xs (before 0 x (omega arith))
    ∙ filter_range p xs low count (omega (arith, fits)) (λ k d less. before (suc k) d (omega (arith, less)))
    (λ k d least less. inside (suc k) d (omega (arith, least)) (omega (arith, less)))
    (λ k d past less. behind (suc k) d (omega (arith, past)) (omega (arith, less)))

lt_true : (x n : ℕ) → nat_lt x n ≡ true → x < n
lt_true x n is = grind (arith, nat_tests)

lt_false : (x n : ℕ) → nat_lt x n ≡ false → n ≤ x
lt_false x n is = grind (arith, nat_tests)

le_true : (x n : ℕ) → nat_le x n ≡ true → x ≤ n
le_true x n is = grind (arith, nat_tests)

le_false : (x n : ℕ) → nat_le x n ≡ false → n < x
le_false x n is = grind (arith, nat_tests)

same_test : (x n : ℕ) → x ≡ n → (x == n) ≡ true
same_test x n is = grind (arith, nat_tests)

below_test : (x n : ℕ) → x < n → (x == n) ≡ false
below_test x n is = grind (arith, nat_tests)

above_test : (x n : ℕ) → n < x → (x == n) ≡ false
above_test x n is = grind (arith, nat_tests)

module _ {X : Type 0} (owner : X → ℕ) (xs : List X) (n i : ℕ) where
  -- before the place owners are below
  pub below_before : IsPartitionPoint (λ y. nat_lt (owner y) n ≡ true) (λ y. nat_lt (owner y) n ≡ false) xs i
      → (k : ℕ) (d : X) → k < i → owner (get_or xs k d) < n
  below_before parted k d less = lt_true (owner (get_or xs k d)) n (parted.0 k d (omega arith) less)

  -- behind the place owners aren't below
  pub below_behind : IsPartitionPoint (λ y. nat_lt (owner y) n ≡ true) (λ y. nat_lt (owner y) n ≡ false) xs i
      → (k : ℕ) (d : X) → i ≤ k → k < length xs → n ≤ owner (get_or xs k d)
  below_behind parted k d low less = lt_false (owner (get_or xs k d)) n (parted.1 k d low less)

  -- before the place owners are at most
  pub up_before : IsPartitionPoint (λ y. nat_le (owner y) n ≡ true) (λ y. nat_le (owner y) n ≡ false) xs i
      → (k : ℕ) (d : X) → k < i → owner (get_or xs k d) ≤ n
  up_before parted k d less = le_true (owner (get_or xs k d)) n (parted.0 k d (omega arith) less)

  -- behind the place owners are above
  pub up_behind : IsPartitionPoint (λ y. nat_le (owner y) n ≡ true) (λ y. nat_le (owner y) n ≡ false) xs i
      → (k : ℕ) (d : X) → i ≤ k → k < length xs → n < owner (get_or xs k d)
  up_behind parted k d low less = le_false (owner (get_or xs k d)) n (parted.1 k d low less)

module _ {X : Type 0} (owner : X → ℕ) (n : ℕ) (xs : List X) (low high : ℕ) (before : (k : ℕ) (d : X) → k < low → owner (get_or xs k d) < n)
    (behind : (k : ℕ) (d : X) → low ≤ k → k < length xs → n ≤ owner (get_or xs k d))
    (to : (k : ℕ) (d : X) → k < high → owner (get_or xs k d) ≤ n)
    (past : (k : ℕ) (d : X) → high ≤ k → k < length xs → n < owner (get_or xs k d)) where
  -- those of a subprogram stand between two places
  pub piece_is : low < high → high ≤ length xs → take (high - low) (drop low xs) ≡ of_one owner n xs
  piece_is some within =
      sym (filter_range (λ x. owner x == n) xs low (high - low) (omega (arith, some, within))
      (λ k d less. below_test (owner (get_or xs k d)) n (before k d less))
      (λ k d least less.
      let floor : n ≤ owner (get_or xs k d) = behind k d least (omega (arith, less, some, within)) in
      let roof : owner (get_or xs k d) ≤ n = to k d (omega (arith, less, some)) in
      same_test (owner (get_or xs k d)) n (omega (arith, floor, roof)))
      (λ k d most less. above_test (owner (get_or xs k d)) n (past k d (omega (arith, most, some)) less)))

  -- or there are none
  pub none_is : high ≤ low → [] ≡ of_one owner n xs
  none_is empty =
      sym (filter_none (λ x. owner x == n) xs (λ k d less. elim (cases_lt k low) [
        | inl front ↦ below_test (owner (get_or xs k d)) n (before k d front)
        | inr back ↦ above_test (owner (get_or xs k d)) n (past k d (omega (arith, empty, back)) less)
      ]))
