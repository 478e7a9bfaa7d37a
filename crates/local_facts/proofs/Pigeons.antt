-- So many different numbers below a bound are no more than the bound.
use Rattle.std.proofs.Common.{◌≡◌, ℕ, ◌<◌, ◌≤◌, Bool, true, false, cond, nat_lt, refl, sym, ◌∙◌, arith, zero, suc}
use Rattle.std.proofs.lemmas.Bool.Decides.{nat_tests}

abbrev pub Into : (ℕ → ℕ) → ℕ → ℕ → Type 0
Into f n m = (i : ℕ) → i < n → f i < m

abbrev pub OneToOne : (ℕ → ℕ) → ℕ → Type 0
OneToOne f n = (i j : ℕ) → i < n → j < n → f i ≡ f j → i ≡ j

-- the numbers, with the last one in place of the greatest
abbrev lowered : (ℕ → ℕ) → ℕ → ℕ → ℕ → ℕ
lowered f n m i = cond (nat_lt (f i) m) (f i) (f n)

module _ (f : ℕ → ℕ) (n m : ℕ) (into : Into f (suc n) (suc m)) (one : OneToOne f (suc n)) where
  below : (i : ℕ) → nat_lt (f i) m ≡ true → f i < m
  below i e = grind (arith, nat_tests)

  greatest : (i : ℕ) → i < suc n → nat_lt (f i) m ≡ false → f i ≡ m
  greatest i low e = let h = into i low in grind (arith, nat_tests)

  lowered_into : Into (lowered f n m) n m
  lowered_into i low = into_cases (nat_lt (f i) m) refl (nat_lt (f n) m) refl
    where
      into_cases : (b : Bool) → nat_lt (f i) m ≡ b → (c : Bool) → nat_lt (f n) m ≡ c → cond b (f i) (f n) < m
      into_cases true e c d = below i e
      into_cases false e true d = below n d
      into_cases false e false d =
          let same : f i ≡ f n = greatest i (omega (arith, low)) e ∙ sym (greatest n (omega arith) d) in
          let clash = one i n (omega (arith, low)) (omega arith) same in
          absurd (omega (arith, clash, low))

  lowered_one : OneToOne (lowered f n m) n
  lowered_one i j a b = one_cases (nat_lt (f i) m) refl (nat_lt (f j) m) refl
    where
      one_cases : (x : Bool) → nat_lt (f i) m ≡ x → (y : Bool) → nat_lt (f j) m ≡ y → cond x (f i) (f n) ≡ cond y (f j) (f n) → i ≡ j
      one_cases true e true d same = one i j (omega (arith, a)) (omega (arith, b)) same
      one_cases true e false d same = let clash = one i n (omega (arith, a)) (omega arith) same in absurd (omega (arith, clash, a))
      one_cases false e true d same = let clash = one n j (omega arith) (omega (arith, b)) same in absurd (omega (arith, clash, b))
      one_cases false e false d same = one i j (omega (arith, a)) (omega (arith, b)) (greatest i (omega (arith, a)) e ∙ sym (greatest j (omega (arith, b)) d))

-- numbers below n that go one to one into those below m are no more than m
pub pigeonhole : (n m : ℕ) (f : ℕ → ℕ) → Into f n m → OneToOne f n → n ≤ m
pigeonhole zero m f into one = omega arith
pigeonhole (suc n) zero f into one = let h = into n (omega arith) in absurd (omega (arith, h))
pigeonhole (suc n) (suc m) f into one = let h = pigeonhole n m (lowered f n m) (lowered_into f n m into one) (lowered_one f n m into one) in omega (arith, h)
