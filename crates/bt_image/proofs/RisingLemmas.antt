-- Numbers that rise.
use Rattle.std.proofs.Common.{◌≡◌, ℕ, ◌+◌, ◌-◌, ◌<◌, ◌≤◌, List, [], ◌∷◌, ◌++◌, length, get_or, take, drop, All}
use Rattle.std.proofs.Common.{Contains, ◌↔◌, true, Result, Ok, Err, is_ok, nat_cmp, refl, sym, ◌∙◌, ap, subst, arith}
use Rattle.std.proofs.Common.{⊎_elim}
use Rattle.std.specs.List.Sorted.{IsStrictlyIncreasing, IsBinarySearchResult}
use Rattle.std.proofs.lemmas.Bool.{cases_lt, false≢true}
use Rattle.std.proofs.lemmas.List.{get_or_default, get_or-take, get_or-drop, length-drop, length-take-le, get_or_append_left, get_or_push, length_push}
use Rattle.std.proofs.lemmas.List.Elements.{Contains-push, Contains-push_cases, Contains-append_left, Contains-get_or}
use Rattle.std.proofs.lemmas.List.Sorted.{searched}
use Rattle.std.proofs.lemmas.Map.Keys.{below_from_sorted, sorted_from_strictly_increasing}
use Rattle.bt_image.specs.Extent.{Rise}
use Rattle.bt_image.specs.Values.{AreShared}

-- numbers that rise step by step rise
pub rise_from_steps : (xs : List ℕ) → IsStrictlyIncreasing xs → Rise xs
rise_from_steps xs steps = λ i j lt jlt. below_from_sorted xs i j 0 (sorted_from_strictly_increasing xs steps) lt jlt

-- a part of a list: its length, and what stands in it
part_at : (from n : ℕ) (xs : List ℕ) (k d : ℕ) → k < n → get_or (take n (drop from xs)) k d ≡ get_or xs (from + k) d
part_at from n xs k d lt = get_or-take n (drop from xs) k d lt ∙ get_or-drop from xs k d

part_len : (from n : ℕ) (xs : List ℕ) → from + n ≤ length xs → length (take n (drop from xs)) ≡ n
part_len from n xs le = let h = length-drop from xs in length-take-le n (drop from xs) (omega arith)

-- a part of numbers that rise does too, and it has what stands from its first place on
pub part_rises : (from n : ℕ) (xs part : List ℕ) → part ≡ take n (drop from xs) → from + n ≤ length xs → Rise xs → Rise part
part_rises from n xs part is le rise = subst Rise (sym is) (λ i j lt jlt.
    let l = part_len from n xs le in
    let a = part_at from n xs i 0 (omega arith) in
    let b = part_at from n xs j 0 (omega arith) in
    let h = rise (from + i) (from + j) (omega arith) (omega arith) in omega arith)

-- each number of a part is between the ends
pub part_each : (from n low high : ℕ) (xs part : List ℕ) → part ≡ take n (drop from xs) → from + n ≤ length xs
    → ((k : ℕ) → from ≤ k → k < length xs → low ≤ get_or xs k 0) → ((k : ℕ) → k < from + n → get_or xs k 0 < high)
    → All (λ a. Contains xs a × (low ≤ a) × (a < high)) part
part_each from n low high xs part is le above below =
    subst (All (λ a. Contains xs a × (low ≤ a) × (a < high))) (sym is) (λ k d lt.
    let l = part_len from n xs le in
    let a = part_at from n xs k d (omega arith) in
    let b = get_or_default xs (from + k) d 0 (omega arith) in
    let p = above (from + k) (omega arith) (omega arith) in
    let q = below (from + k) (omega arith) in
    (subst (Contains xs) (sym a) (Contains-get_or xs (from + k) d (omega arith)), omega arith, omega arith))

-- each number between the ends is in the part
pub part_all : (from n low high : ℕ) (xs part : List ℕ) → part ≡ take n (drop from xs) → from + n ≤ length xs
    → ((k : ℕ) → k < from → get_or xs k 0 < low) → ((k : ℕ) → from + n ≤ k → k < length xs → high ≤ get_or xs k 0)
    → (a : ℕ) → Contains xs a → low ≤ a → a < high → Contains part a
part_all from n low high xs part is le below above a c al ah =
    subst (λ ys. Contains ys a) (sym is) (
    let at = get_or_default xs c.0 0 a c.1 ∙ c.2 in
    let l = part_len from n xs le in
    let ge : from ≤ c.0 = ⊎_elim (λ lt. absurd (let h = below c.0 lt in omega arith)) (λ g. g) (cases_lt c.0 from) in
    let lt : c.0 < from + n = ⊎_elim (λ l. l) (λ g. absurd (let h = above c.0 g c.1 in omega arith)) (cases_lt c.0 (from + n)) in
    let k : ℕ = c.0 - from in
    let e : from + k ≡ c.0 = omega arith in
    (k, omega arith, part_at from n xs k a (omega arith) ∙ ap (λ (i : ℕ). get_or xs i a) e ∙ c.2))

-- nothing stands between ends that meet
pub none_between : (from to low high : ℕ) (xs part : List ℕ) → length part ≡ 0 → to ≤ from
    → ((k : ℕ) → k < from → get_or xs k 0 < low) → ((k : ℕ) → to ≤ k → k < length xs → high ≤ get_or xs k 0)
    → (a : ℕ) → Contains xs a → low ≤ a → a < high → Contains part a
none_between from to low high xs part empty le below above a c al ah =
    let at = get_or_default xs c.0 0 a c.1 ∙ c.2 in
    absurd (⊎_elim (λ lt. let h = below c.0 lt in omega arith) (λ ge. let h = above c.0 (omega arith) c.1 in omega arith) (cases_lt c.0 from))

pub shared_none : (xs ys found : List ℕ) → found ≡ [] → AreShared xs ys 0 found
shared_none xs ys found none = subst (AreShared xs ys 0) (sym none) (record {
  rise = λ i j lt jlt. absurd (omega arith);
  before = λ k j klt le jlt. absurd (omega arith);
  each = λ a c. absurd (let h = c.1 in omega arith);
  all = λ j lt c. absurd (omega arith);
})

-- one more number, which is greater than those that are there
pub rise_push : (xs : List ℕ) (x : ℕ) → Rise xs → ((k : ℕ) → k < length xs → get_or xs k 0 < x) → Rise (xs ++ x ∷ [])
rise_push xs x rise above = λ i j lt jlt.
    let long = length_push xs x in
    let a = get_or_append_left xs (x ∷ []) 0 i (omega arith) in
    ⊎_elim
    (λ below. let b = get_or_append_left xs (x ∷ []) 0 j below in let h = rise i j lt below in omega arith)
    (λ ge. let e : length xs ≡ j = omega arith in let b = get_or_push xs x 0 j e in let h = above i (omega arith) in omega arith)
    (cases_lt j (length xs))

-- a number that the others have is added
pub shared_added : (xs ys found new : List ℕ) (i : ℕ) → Rise xs → i < length xs → Contains ys (get_or xs i 0) → new ≡ found ++ get_or xs i 0 ∷ []
    → AreShared xs ys i found → AreShared xs ys (i + 1) new
shared_added xs ys found new i rise lt has is are = subst (AreShared xs ys (i + 1)) (sym is) (record {
  rise = rise_push found x are.rise (λ k klt. are.before k i klt (omega arith) lt);
  before = λ k j klt le jlt. (
      let long = length_push found x in
      let r = rise i j (omega arith) jlt in
      ⊎_elim
      (λ below. let a = get_or_append_left found (x ∷ []) 0 k below in let h = are.before k j below (omega arith) jlt in omega arith)
      (λ ge. let e : length found ≡ k = omega arith in let a = get_or_push found x 0 k e in omega arith)
      (cases_lt k (length found)));
  each = λ a c. ⊎_elim (λ old. are.each a old) (λ e. (subst (Contains xs) e (Contains-get_or xs i 0 lt), subst (Contains ys) e has))
      (Contains-push_cases found x a c);
  all = λ j jlt c. ⊎_elim
      (λ below. Contains-append_left found (x ∷ []) (get_or xs j 0) (are.all j below c))
      (λ ge. let e : i ≡ j = omega arith in subst (λ (m : ℕ). Contains (found ++ x ∷ []) (get_or xs m 0)) e (Contains-push found x))
      (cases_lt j i);
})
  where
    x : ℕ
    x = get_or xs i 0

-- a number that the others lack is skipped
pub shared_skipped : (xs ys found : List ℕ) (i : ℕ) → (Contains ys (get_or xs i 0) → ⊥) → AreShared xs ys i found → AreShared xs ys (i + 1) found
shared_skipped xs ys found i out are = record {
  rise = are.rise;
  before = λ k j klt le jlt. are.before k j klt (omega arith) jlt;
  each = are.each;
  all = λ j jlt c. ⊎_elim
      (λ below. are.all j below c)
      (λ ge. let e : j ≡ i = omega arith in absurd (out (subst (λ (m : ℕ). Contains ys (get_or xs m 0)) e c)))
      (cases_lt j i);
}

-- a binary search of numbers that rise finds what they have, and nothing else
never_falls : (xs : List ℕ) → Rise xs → (i j : ℕ) → i ≤ j → j < length xs → get_or xs i 0 ≤ get_or xs j 0
never_falls xs rise i j le lt =
    ⊎_elim
    (λ below. let h = rise i j below lt in omega arith)
    (λ ge. let e : i ≡ j = omega arith in subst (λ (k : ℕ). get_or xs i 0 ≤ get_or xs k 0) e (omega arith))
    (cases_lt i j)

-- a search decides what rising numbers contain
pub search_decides : (xs : List ℕ) (x : ℕ) (r : Result ℕ ℕ) → Rise xs → IsBinarySearchResult (λ y. nat_cmp y x) xs r → (is_ok r ≡ true) ↔ Contains xs x
search_decides xs x (Ok i) rise result =
    let at : (i < length xs) × (get_or xs i 0 ≡ x) = searched xs x (Ok i) result (never_falls xs rise) in
    (λ yes. (i, at.0, get_or_default xs i x 0 at.0 ∙ at.1), λ has. refl)
search_decides xs x (Err i) rise result =
    let gap = searched xs x (Err i) result (never_falls xs rise) in (
      λ yes. absurd (false≢true yes),
      λ has.
          let at = get_or_default xs has.0 0 x has.1 ∙ has.2 in
          absurd (⊎_elim (λ early. let h = gap.1 has.0 early in omega arith) (λ late. let h = gap.2 has.0 late has.1 in omega arith) (cases_lt has.0 i)),
    )
