-- How often a number stands in a list, and sums over lists that change at one place.
use Rattle.std.proofs.Common.{◌≡◌, ◌≢◌, ℕ, zero, suc, ◌+◌, ◌≤◌, List, [], ◌∷◌, cond, eq-eqb, ne_eqb, set, sum_by, Contains, sym, refl, ap, arith}
use Rattle.std.proofs.lemmas.List.Sums.{sum_by-cons}
use mathlib.Core.Logic.{dite}
use mathlib.Core.Option.{some, some-injective, some-ne-none}
use native.Mathlib.Decide.{ℕ_discrete}
use lib.ListN.{get_elem?}
use Rattle.shard_slots.specs.Hold.{same, times, without}

-- a number is the same as itself once
pub same_here : (k n : ℕ) → k ≡ n → same k n ≡ 1
same_here k n e = ap (λ b. cond b 1 0) (eq-eqb k n e)

-- another number isn't
pub same_else : (k n : ℕ) → k ≢ n → same k n ≡ 0
same_else k n e = ap (λ b. cond b 1 0) (ne_eqb k n e)

-- a number stands in a list exactly where it stands there at least once
pub times_contains : (n : ℕ) (ks : List ℕ) → 1 ≤ times n ks → Contains ks n
times_contains n [] h = absurd (omega arith)
times_contains n (k ∷ ks) h = dite (ℕ_discrete k n) (λ e. (0, omega arith, e))
    (λ e. let rest = times_contains n ks (omega (arith, same_else k n e)) in (suc rest.0, omega (arith, rest.1), rest.2))

-- what a list contains stands in it once at least
pub contains_times : (n : ℕ) (ks : List ℕ) → Contains ks n → 1 ≤ times n ks
contains_times n [] (i, near, e) = absurd (omega (arith, near))
contains_times n (k ∷ ks) (zero, near, e) = omega (arith, same_here k n e)
contains_times n (k ∷ ks) (suc i, near, e) = omega (arith, contains_times n ks (i, omega (arith, near), e))

-- a list without a number has it once less, and each other as often
pub times_without : (n m : ℕ) (ks : List ℕ) → 1 ≤ times n ks → times m (without n ks) + same n m ≡ times m ks
times_without n m [] h = absurd (omega arith)
times_without n m (k ∷ ks) h = dite (ℕ_discrete k n)
    (λ e. let w : times m (without n (k ∷ ks)) ≡ times m ks =
    ap (λ b. times m (cond b ks (k ∷ without n ks))) (eq-eqb k n e) in let s : same k m ≡ same n m =
    ap (λ (j : ℕ). same j m) e in omega (arith, w, s))
    (λ e. let w : times m (without n (k ∷ ks)) ≡ same k m + times m (without n ks) =
    ap (λ b. times m (cond b ks (k ∷ without n ks))) (ne_eqb k n e) in omega
    (arith, w, same_else k n e, times_without n m ks (omega (arith, same_else k n e))))

-- what a seat holds behind a take and a put of the same part is what it held
pub without_first : (n : ℕ) (ks : List ℕ) → without n (n ∷ ks) ≡ ks
without_first n ks = ap (λ b. cond b ks (n ∷ without n ks)) (eq-eqb n n refl)

-- a list in which no number stands is empty
pub none_stands : (ks : List ℕ) → ((n : ℕ) → times n ks ≡ 0) → ks ≡ []
none_stands [] h = refl
none_stands (k ∷ ks) h = absurd (omega (arith, h k, same_here k k refl))

module _ {A : Type 0} (f : A → ℕ) where
  -- a sum with one term changed, by the old and the new one
  pub sum_set : (l : List A) (i : ℕ) (a b : A) → get_elem? l i ≡ some a → sum_by f (set l i b) + f a ≡ sum_by f l + f b
  sum_set [] i a b e = absurd (some-ne-none a (sym e))
  sum_set (x ∷ xs) zero a b e = omega (arith, ap f (some-injective x a e), sum_by-cons f x xs, sum_by-cons f b xs)
  sum_set (x ∷ xs) (suc i) a b e = omega (arith, sum_set xs i a b e, sum_by-cons f x xs, sum_by-cons f x (set xs i b))

  -- a term is at most the sum
  pub term_le : (l : List A) (i : ℕ) (a : A) → get_elem? l i ≡ some a → f a ≤ sum_by f l
  term_le [] i a e = absurd (some-ne-none a (sym e))
  term_le (x ∷ xs) zero a e = omega (arith, ap f (some-injective x a e), sum_by-cons f x xs)
  term_le (x ∷ xs) (suc i) a e = omega (arith, term_le xs i a e, sum_by-cons f x xs)

  -- two terms are at most the sum
  pub terms_le : (l : List A) (i j : ℕ) (a b : A) → j ≢ i → get_elem? l i ≡ some a → get_elem? l j ≡ some b → f a + f b ≤ sum_by f l
  terms_le [] i j a b n e d = absurd (some-ne-none a (sym e))
  terms_le (x ∷ xs) zero zero a b n e d = absurd (n refl)
  terms_le (x ∷ xs) zero (suc j) a b n e d = omega (arith, ap f (some-injective x a e), term_le xs j b d, sum_by-cons f x xs)
  terms_le (x ∷ xs) (suc i) zero a b n e d = omega (arith, ap f (some-injective x b d), term_le xs i a e, sum_by-cons f x xs)
  terms_le (x ∷ xs) (suc i) (suc j) a b n e d = omega (arith, terms_le xs i j a b (λ h. n (ap suc h)) e d, sum_by-cons f x xs)

  -- where a sum is something, some term is
  pub some_term : (l : List A) → 1 ≤ sum_by f l → (i : ℕ) × (a : A) × (get_elem? l i ≡ some a) × (1 ≤ f a)
  some_term [] h = absurd (omega arith)
  some_term (x ∷ xs) h = dite (ℕ_discrete (f x) 0)
      (λ e. let more = some_term xs (omega (arith, sum_by-cons f x xs, e)) in (suc more.0, more.1, more.2, more.3)) (λ e. (0, x, refl, omega arith))

  -- where each term is nothing, so is the sum
  pub no_terms : (l : List A) → ((i : ℕ) (a : A) → get_elem? l i ≡ some a → f a ≡ 0) → sum_by f l ≡ 0
  no_terms [] h = refl
  no_terms (x ∷ xs) h = omega (arith, sum_by-cons f x xs, h 0 x refl, no_terms xs (λ i a e. h (suc i) a e))
