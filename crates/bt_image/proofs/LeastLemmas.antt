-- Lemmas on the least number at which something is found.
use Rattle.std.proofs.Common.{◌≡◌, ℕ, zero, suc, ◌+◌, ◌<◌, ◌≤◌, ◌⊎◌, inl, inr, Bool, true, Option, Some, None, refl, sym, ◌∙◌, ap, arith, add-one, ⊎_elim}
use Rattle.std.specs.Option.{option_or}
use Rattle.std.proofs.lemmas.Bool.{cases_lt}
use Rattle.bt_image.specs.Least.{first_of, first_passing, where_true}

-- one more number
pub first_of-more : {X : Type 0} (f : ℕ → Option X) (n : ℕ) → first_of f (n + 1) ≡ option_or (first_of f n) (f n)
first_of-more f n = rw add-one refl

-- a number below the next is below this one, or is it
pub below_or_at : (k n : ℕ) → k < suc n → (k < n) ⊎ (k ≡ n)
below_or_at k n h = ⊎_elim (λ lt. inl lt) (λ ge. inr (omega arith)) (cases_lt k n)

-- where neither of two is there, none of both is
pub or_none : {X : Type 0} (a b : Option X) → option_or a b ≡ None → (a ≡ None) × (b ≡ None)
or_none None b h = (refl, h)
or_none (Some x) b h = cc

-- nothing is found where f gives nothing
pub first_of-none : {X : Type 0} (f : ℕ → Option X) (n : ℕ) → ((k : ℕ) → k < n → f k ≡ None) → first_of f n ≡ None
first_of-none f zero h = refl
first_of-none f (suc n) h =
    let a = first_of-none f n (λ k lt. h k (omega arith)) in
    let b = h n (omega arith) in
    ap (λ o. option_or o (f n)) a ∙ b

-- where nothing is found f gives nothing
pub none_below : {X : Type 0} (f : ℕ → Option X) (n : ℕ) → first_of f n ≡ None → (k : ℕ) → k < n → f k ≡ None
none_below f zero h k lt = absurd (omega arith)
none_below f (suc n) h k lt =
    let p = or_none (first_of f n) (f n) h in
    ⊎_elim (λ below. none_below f n p.0 k below) (λ at. ap f at ∙ p.1) (below_or_at k n lt)

-- what is found is given at some number
pub first_of-found : {X : Type 0} (f : ℕ → Option X) (n : ℕ) (x : X) → first_of f n ≡ Some x → (k : ℕ) × (k < n) × (f k ≡ Some x)
first_of-found f zero x h = absurd cc
first_of-found {X} f (suc n) x h =
    by (first_of f n) refl (λ y e. first_of-found f n y e)
  where
    by : (o : Option X) → first_of f n ≡ o → ((y : X) → first_of f n ≡ Some y → (k : ℕ) × (k < n) × (f k ≡ Some y)) → (k : ℕ) × (k < suc n) × (f k ≡ Some x)
    by None e found = (n, omega arith, sym (ap (λ o. option_or o (f n)) e) ∙ h)
    by (Some y) e found =
        let p = found y e in
        let s : Some y ≡ Some x = sym (ap (λ o. option_or o (f n)) e) ∙ h in
        (p.0, (let h : p.0 < n = p.1 in omega arith), p.2 ∙ s)

-- what f gives at a number, where it gives nothing else, is found
pub first_of-only : {X : Type 0} (f : ℕ → Option X) (n m : ℕ) (x : X) → m < n → f m ≡ Some x
    → ((k : ℕ) → k < n → (f k ≡ None) ⊎ (f k ≡ Some x)) → first_of f n ≡ Some x
first_of-only {X} f n m x lt at only = by (first_of f n) refl
  where
    by : (o : Option X) → first_of f n ≡ o → first_of f n ≡ Some x
    by None e = absurd (let h = none_below f n e m lt in cc)
    by (Some y) e =
        let p = first_of-found f n y e in
        e ∙ ⊎_elim (λ none. absurd cc) (λ some. sym p.2 ∙ some) (only p.0 p.1)

-- what is found among the first is found
pub first_of-stays : {X : Type 0} (f : ℕ → Option X) (m n : ℕ) (x : X) → m ≤ n → first_of f m ≡ Some x → first_of f n ≡ Some x
first_of-stays f m zero x le h = ap (first_of f) (let e : zero ≡ m = omega arith in e) ∙ h
first_of-stays f m (suc n) x le h =
    ⊎_elim
    (λ lt. ap (λ o. option_or o (f n)) (first_of-stays f m n x (omega arith) h))
    (λ ge. ap (first_of f) (let e : suc n ≡ m = omega arith in e) ∙ h)
    (cases_lt m (suc n))

-- what f gives at the first number at which it gives something is found
pub first_of-here : {X : Type 0} (f : ℕ → Option X) (i n : ℕ) (x : X) → i < n → first_of f i ≡ None → f i ≡ Some x → first_of f n ≡ Some x
first_of-here f i n x lt none some =
    first_of-stays f (suc i) n x (omega arith) (ap (λ o. option_or o (f i)) none ∙ some)

-- the first number that passes the test is found
pub first_passing-here : (test : ℕ → Bool) (i n : ℕ) → i < n → first_passing test i ≡ None → test i ≡ true → first_passing test n ≡ Some i
first_passing-here test i n lt none passes =
    first_of-here (λ k. where_true (test k) k) i n i lt none (rw passes refl)
