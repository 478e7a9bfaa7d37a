-- Lists that have the same members, each once, are the same up to order.
use Rattle.std.proofs.Common.{◌≡◌, ◌⊎◌, ℕ, zero, suc, List, [], ◌∷◌, ◌++◌, Some, Contains, inl, inr, refl, sym, ap, subst, arith}
use Rattle.std.specs.Prelude.{slice_get}
use Rattle.std.specs.List.Sorted.{IsPermutation}
use Rattle.std.proofs.lemmas.List.Sorted.{IsPermutation-cons, IsPermutation-middle, IsPermutation-refl, IsPermutation-sym, IsPermutation-trans}
use Rattle.call_laws.proofs.Risings.{contains_cases, contains_first, contains_later, none_in_empty}
use Rattle.context_answers.proofs.Lists.{among_at, at_among, some_same}

-- no place has what another has
abbrev pub IsEachOnce : {X : Type 0} → List X → Type 0
IsEachOnce {X} xs = (j k : ℕ) (x : X) → slice_get xs j ≡ Some x → slice_get xs k ≡ Some x → j ≡ k

-- a list as what is before a member of it, this, and what follows
record Split {X : Type 0} (xs : List X) (x : X) : Type 0 where
  before : List X
  after : List X
  is : xs ≡ before ++ x ∷ after

-- a list splits at a member
split_at : {X : Type 0} (xs : List X) (x : X) → Contains xs x → Split xs x
split_at [] x has = absurd (none_in_empty x has)
split_at (y ∷ xs) x has = elim (contains_cases y xs x has) [
  | inl first ↦ record { before = []; after = xs; is = ap (λ a. a ∷ xs) first }
  | inr later ↦ let rest = split_at xs x later in record { before = y ∷ rest.before; after = rest.after; is = ap (λ l. y ∷ l) rest.is }
]

-- each of the rest stands once
pub later_once : {X : Type 0} (x : X) (xs : List X) → IsEachOnce (x ∷ xs) → IsEachOnce xs
later_once x xs once j k y at there = let same : suc j ≡ suc k = once (suc j) (suc k) y at there in omega (arith, same)

-- the first isn't among the rest
pub first_once : {X : Type 0} (x : X) (xs : List X) → IsEachOnce (x ∷ xs) → Contains xs x → ⊥
first_once x xs once has =
    let at = at_among xs x has in let same : 0 ≡ suc at.0 = once 0 (suc at.0) x refl at.1 in omega (arith, same)

-- with another in front that isn't among them each still stands once
once_more : {X : Type 0} (x : X) (xs : List X) → IsEachOnce xs → (Contains xs x → ⊥) → IsEachOnce (x ∷ xs)
once_more x xs once never zero zero y at there = refl
once_more x xs once never zero (suc k) y at there = absurd (never (subst (Contains xs) (sym (some_same at)) (among_at xs k y there)))
once_more x xs once never (suc j) zero y at there = absurd (never (subst (Contains xs) (sym (some_same there)) (among_at xs j y at)))
once_more x xs once never (suc j) (suc k) y at there = ap suc (once j k y at there)

-- what is left where a member is taken out has all other members
left_in : {X : Type 0} (x y : X) (before after : List X) → Contains (before ++ x ∷ after) y → (x ≡ y) ⊎ Contains (before ++ after) y
left_in x y [] after has = contains_cases x after y has
left_in x y (b ∷ before) after has = elim (contains_cases b (before ++ x ∷ after) y has) [
  | inl first ↦ inr (subst (Contains (b ∷ (before ++ after))) first (contains_first b (before ++ after)))
  | inr later ↦ elim (left_in x y before after later) [ inl is ↦ inl is | inr rest ↦ inr (contains_later b (before ++ after) y rest) ]
]

-- what is left was there before
in_whole : {X : Type 0} (x y : X) (before after : List X) → Contains (before ++ after) y → Contains (before ++ x ∷ after) y
in_whole x y [] after has = contains_later x after y has
in_whole x y (b ∷ before) after has = elim (contains_cases b (before ++ after) y has) [
  | inl first ↦ subst (Contains (b ∷ (before ++ x ∷ after))) first (contains_first b (before ++ x ∷ after))
  | inr later ↦ contains_later b (before ++ x ∷ after) y (in_whole x y before after later)
]

-- so was the member itself
its_place : {X : Type 0} (x : X) (before after : List X) → Contains (before ++ x ∷ after) x
its_place x [] after = contains_first x after
its_place x (b ∷ before) after = contains_later b (before ++ x ∷ after) x (its_place x before after)

-- and it is no more among them
taken_once : {X : Type 0} (x : X) (before after : List X) → IsEachOnce (before ++ x ∷ after) → Contains (before ++ after) x → ⊥
taken_once x [] after once has = first_once x after once has
taken_once x (b ∷ before) after once has = elim (contains_cases b (before ++ after) x has) [
  | inl first ↦ first_once b (before ++ x ∷ after) once (subst (Contains (before ++ x ∷ after)) (sym first) (its_place x before after))
  | inr later ↦ taken_once x before after (later_once b (before ++ x ∷ after) once) later
]

-- each is left once
left_once : {X : Type 0} (x : X) (before after : List X) → IsEachOnce (before ++ x ∷ after) → IsEachOnce (before ++ after)
left_once x [] after once = later_once x after once
left_once {X} x (b ∷ before) after once =
    once_more b (before ++ after) (left_once x before after (later_once b (before ++ x ∷ after) once))
    (λ has. first_once b (before ++ x ∷ after) once (in_whole x b before after has))

-- lists with the same members, each once, are the same up to order
pub same_members : {X : Type 0} (xs ys : List X) → IsEachOnce xs → IsEachOnce ys → ((x : X) → Contains xs x → Contains ys x)
    → ((x : X) → Contains ys x → Contains xs x) → IsPermutation xs ys
same_members [] [] one two there back = IsPermutation-refl []
same_members [] (y ∷ ys) one two there back = absurd (none_in_empty y (back y (contains_first y ys)))
same_members {X} (x ∷ xs) ys one two there back =
    let at : Split ys x = split_at ys x (there x (contains_first x xs)) in
    let whole : IsEachOnce (at.before ++ x ∷ at.after) = subst IsEachOnce at.is two in
    let rest : IsPermutation xs (at.before ++ at.after) =
    same_members xs (at.before ++ at.after) (later_once x xs one) (left_once x at.before at.after whole)
    (λ y has.
    other x y xs (at.before ++ at.after) (first_once x xs one) has
    (left_in x y at.before at.after (subst (λ (l : List X). Contains l y) at.is (there y (contains_later x xs y has)))))
    (λ y has.
    other x y (at.before ++ at.after) xs (taken_once x at.before at.after whole) has
    (contains_cases x xs y (back y (subst (λ (l : List X). Contains l y) (sym at.is) (in_whole x y at.before at.after has))))) in
    IsPermutation-trans (x ∷ xs) (x ∷ (at.before ++ at.after)) ys (IsPermutation-cons x xs (at.before ++ at.after) rest)
    (subst (IsPermutation (x ∷ (at.before ++ at.after))) (sym at.is)
    (IsPermutation-sym (at.before ++ x ∷ at.after) (x ∷ (at.before ++ at.after)) (IsPermutation-middle at.before x at.after)))
  where
    other : (x y : X) (here there : List X) → (Contains here x → ⊥) → Contains here y → (x ≡ y) ⊎ Contains there y → Contains there y
    other x y here there never has (inl same) = absurd (never (subst (Contains here) (sym same) has))
    other x y here there never has (inr is) = is
