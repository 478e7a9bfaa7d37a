-- Lists that rise strictly are told apart by their members.
use Rattle.std.proofs.Common.{◌≡◌, ◌⊎◌, ℕ, zero, suc, ◌+◌, ◌<◌, inl, inr, List, [], ◌∷◌, length, refl, sym, ap, subst, ◌∙◌, arith}
use Rattle.std.specs.Prelude.{slice_index, slice_index_or}
use Rattle.std.specs.List.{Contains, All}
use Rattle.std.specs.List.Sorted.{IsStrictlyIncreasing}
use Rattle.std.proofs.lemmas.List.Elements.{All-contains, All-nil, All-cons, All-weaker}
use Rattle.call_laws.specs.Rising.{IsRisingBy, IsStrict, RisingListsAreOne, ReasonListsAreOne}

-- a list contains its first
pub contains_first : {A : Type 0} (x : A) (xs : List A) → Contains (x ∷ xs) x
contains_first x xs = (0, omega arith, refl)

-- what the rest contains the list contains
pub contains_later : {A : Type 0} (x : A) (xs : List A) (y : A) → Contains xs y → Contains (x ∷ xs) y
contains_later x xs y c = (suc c.0, (let l : c.0 < length xs = c.1 in omega (arith, l)), c.2)

cases_at : {A : Type 0} (x : A) (xs : List A) (y : A) (k : ℕ) → k < length (x ∷ xs) → slice_index_or (x ∷ xs) k y ≡ y → (x ≡ y) ⊎ Contains xs y
cases_at x xs y zero l e = inl e
cases_at x xs y (suc k) l e = inr (k, omega arith, e)

-- what a list contains is its first or in the rest
pub contains_cases : {A : Type 0} (x : A) (xs : List A) (y : A) → Contains (x ∷ xs) y → (x ≡ y) ⊎ Contains xs y
contains_cases x xs y c = cases_at x xs y c.0 c.1 c.2

-- the empty list contains nothing
pub none_in_empty : {A : Type 0} (y : A) → Contains [] y → ⊥
none_in_empty y c = let l : c.0 < 0 = c.1 in omega (arith, l)

module _ {A : Type 0} (below : A → A → Type 0) (strict : IsStrict below) where
  same_first : (x : A) (xs : List A) (y : A) (ys : List A) → All (below x) xs → All (below y) ys → (x ≡ y) ⊎ Contains xs y → (y ≡ x) ⊎ Contains ys x → x ≡ y
  same_first x xs y ys a b (inl e) d = e
  same_first x xs y ys a b (inr c) (inl e) = sym e
  same_first x xs y ys a b (inr c) (inr d) = absurd (strict.apart x y (All-contains (below x) xs y a c) (All-contains (below y) ys x b d))

  -- a member of one's rest is one of the other's
  in_rest : (x : A) (xs : List A) (y : A) (ys : List A) (a : A) → x ≡ y → All (below x) xs → Contains xs a → (y ≡ a) ⊎ Contains ys a → Contains ys a
  in_rest x xs y ys a e h c (inl f) =
      let l : below x a = All-contains (below x) xs a h c in
      let m : below a a = subst (λ (z : A). below z a) (e ∙ f) l in absurd (strict.apart a a m m)
  in_rest x xs y ys a e h c (inr d) = d

  -- rising lists of one order with the same members are one
  pub rising_one : (xs ys : List A) → IsRisingBy below xs → IsRisingBy below ys → ((a : A) → Contains xs a → Contains ys a) → ((a : A) → Contains ys a
      → Contains xs a) → xs ≡ ys
  rising_one [] [] r s f g = refl
  rising_one [] (y ∷ ys) r s f g = absurd (none_in_empty y (g y (contains_first y ys)))
  rising_one (x ∷ xs) [] r s f g = absurd (none_in_empty x (f x (contains_first x xs)))
  rising_one (x ∷ xs) (y ∷ ys) r s f g =
      let e : x ≡ y = same_first x xs y ys r.0 s.0 (contains_cases x xs y (g y (contains_first y ys))) (contains_cases y ys x (f x (contains_first x xs))) in
      let rest : xs ≡ ys = rising_one xs ys r.1 s.1
      (λ a c. in_rest x xs y ys a e r.0 c (contains_cases y ys a (f a (contains_later x xs a c))))
      (λ a c. in_rest y ys x xs a (sym e) s.0 c (contains_cases x xs a (g a (contains_later y ys a c)))) in
      ap (λ (z : A). z ∷ xs) e ∙ ap (λ (l : List A). y ∷ l) rest

rest_rises : (x : ℕ) (xs : List ℕ) → IsStrictlyIncreasing (x ∷ xs) → IsStrictlyIncreasing xs
rest_rises x xs h k l =
    let e : suc k + 1 ≡ suc (k + 1) = omega arith in
    subst (λ (z : ℕ). slice_index (x ∷ xs) (suc k) < slice_index (x ∷ xs) z) e (h (suc k) (omega arith))

first_below : (x : ℕ) (xs : List ℕ) → IsStrictlyIncreasing (x ∷ xs) → All (λ (y : ℕ). x < y) xs
first_below x [] h = All-nil (λ (y : ℕ). x < y)
first_below x (y ∷ ys) h =
    let l : x < y = h 0 (omega arith) in
    All-cons (λ (z : ℕ). x < z) y ys l (All-weaker (λ (z : ℕ). y < z) (λ (z : ℕ). x < z) (λ z m. omega (
      arith,
      l,
      m,
    )) ys (first_below y ys (rest_rises x (y ∷ ys) h)))

numbers_rise : (xs : List ℕ) → IsStrictlyIncreasing xs → IsRisingBy ◌<◌ xs
numbers_rise [] h = tt
numbers_rise (x ∷ xs) h = (first_below x xs h, numbers_rise xs (rest_rises x xs h))

-- strictly rising lists of numbers with the same members are one list
pub rising_lists : RisingListsAreOne
rising_lists xs ys r s same = rising_one ◌<◌ (record { apart = λ a b l m. omega arith }) xs ys (numbers_rise xs r) (numbers_rise ys s) (λ n. (same n).0)
    (λ n. (same n).1)

-- a context has one list of reasons
pub reason_lists : ReasonListsAreOne
reason_lists causes c one two a b =
    rising_lists one two a.rising b.rising (λ r. ((λ x. (b.members r).1 ((a.members r).0 x)), (λ x. (a.members r).1 ((b.members r).0 x))))
