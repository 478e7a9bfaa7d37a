-- Whether a number is in a list, at its places, in its beginnings and behind what is put at its end.
use Rattle.std.specs.Prelude.{All}
use Rattle.std.proofs.Common.{◌≡◌, ◌==◌, ◌&&◌, ◌||◌, ◌⊎◌, ℕ, ◌+◌, ◌<◌, ◌≤◌, inl, inr, Bool, true, false, List, [], ◌∷◌, ◌++◌, length, take, get_or}
use Rattle.std.proofs.Common.{refl, sym, ap, subst, ◌∙◌}
use Rattle.std.proofs.lemmas.Bool.{eq-eqb}
use Rattle.std.proofs.lemmas.Bool.Decides.{eqb_tells}
use Rattle.std.proofs.lemmas.List.{take_more, take_all}
use Rattle.std.proofs.lemmas.List.Folds.{list_any-append, list_any_at, Any-from_list_any}
use Rattle.std.proofs.lemmas.Grind.{get_or_default_zero}
use Rattle.bt_base.specs.Graph.{has}

-- numbers that test as the same are
pub same_number : (x y : ℕ) → (x == y) ≡ true → x ≡ y
same_number x y t = elim (eqb_tells x y) [ inl a ↦ a.1 | inr a ↦ let f : (x == y) ≡ false = a.0 in cc ]

-- a test or nothing is the test
pub or_none : (a : Bool) → (a || false) ≡ a
or_none true = refl
or_none false = refl

-- one of two tests holds where the second does
pub or_right : (a b : Bool) → b ≡ true → (a || b) ≡ true
or_right true b h = refl
or_right false b h = h

-- one of two tests holds where the first does
pub or_left : (a b : Bool) → a ≡ true → (a || b) ≡ true
or_left true b h = refl
or_left false b h = cc

-- where one of two tests holds, the first or the second does
pub or_cases : (a b : Bool) → (a || b) ≡ true → (a ≡ true) ⊎ (b ≡ true)
or_cases true b h = inl refl
or_cases false b h = inr h

-- a list has what stands at its places
pub has_at : (xs : List ℕ) (i : ℕ) → i < length xs → has xs (get_or xs i 0) ≡ true
has_at xs i l = list_any_at (λ m. get_or xs i 0 == m) xs i 0 l (eq-eqb (get_or xs i 0) (get_or xs i 0) refl)

-- a list has what stands at a place of it
pub has_where : (xs : List ℕ) (i n : ℕ) → i < length xs → get_or xs i 0 ≡ n → has xs n ≡ true
has_where xs i n l e = subst (λ (x : ℕ). has xs x ≡ true) e (has_at xs i l)

-- a list with a number more has that and its own
pub has-push : (xs : List ℕ) (y n : ℕ) → has (xs ++ y ∷ []) n ≡ (has xs n || (n == y))
has-push xs y n = list_any-append (λ m. n == m) xs (y ∷ []) ∙ ap (λ (b : Bool). has xs n || b) (or_none (n == y))

-- one place more has what stands there too
pub has_take_more : (xs : List ℕ) (i n : ℕ) → i < length xs → has (take (i + 1) xs) n ≡ (has (take i xs) n || (n == get_or xs i 0))
has_take_more xs i n l = ap (λ (x : List ℕ). has x n) (take_more xs i 0 l) ∙ has-push (take i xs) (get_or xs i 0) n

-- all of a list has what the list has
pub has_take_all : (xs : List ℕ) (i n : ℕ) → length xs ≤ i → has (take i xs) n ≡ has xs n
has_take_all xs i n l = ap (λ (x : List ℕ). has x n) (take_all i xs l)

-- a place of a number that is there
pub record IsPlace (xs : List ℕ) (n : ℕ) : Type 0 where
  pub at : ℕ
  pub within : at < length xs
  pub is : get_or xs at 0 ≡ n

-- what a list has stands at a place
pub place_of : (xs : List ℕ) (n : ℕ) → has xs n ≡ true → IsPlace xs n
place_of xs n h =
    let a = Any-from_list_any (λ m. n == m) xs h in
    record { at = a.0; within = a.2; is = sym (get_or_default_zero xs a.0 a.1 a.2) ∙ (a.3 ∙ sym (same_number n a.1 a.4)) }

-- a test and truth is the test
pub and_true : (a : Bool) → (a && true) ≡ a
and_true true = refl
and_true false = refl

-- what holds of each element holds of each number that is there
pub all_has : (P : ℕ → Type 0) (xs : List ℕ) → All P xs → (n : ℕ) → has xs n ≡ true → P n
all_has P xs all n h = let p : IsPlace xs n = place_of xs n h in subst P p.is (all p.at 0 p.within)
