-- The merge of two rising lists, one number at a time.
use Rattle.std.proofs.Common.{◌≡◌, ℕ, ◌+◌, ◌-◌, ◌<◌, ◌≤◌, ◌⊎◌, List, [], ◌∷◌, ◌++◌, length, get_or, sym, subst, inl, inr, arith, All, Contains}
use Rattle.std.proofs.lemmas.Bool.{cases_lt}
use Rattle.std.proofs.lemmas.Grind.{common_steps}
use Rattle.std.proofs.lemmas.List.Elements.{All-contains, All-push, All-nil, Contains-get_or, Contains-append_left, Contains-push}
use Rattle.std.proofs.lemmas.List.Kept.{AllPairs-from_increasing}
use Rattle.std.specs.List.Sorted.{IsStrictlyIncreasing}
use Rattle.value_lattice.specs.Merge.{IsStep, IsMerge}
use Rattle.value_lattice.proofs.ThresholdLemmas.{at_zero}

-- so many numbers of two lists are merged
pub record IsMerging (xs ys : List ℕ) (i j : ℕ) (merged : List ℕ) : Type 0 where
  pub left_within : i ≤ length xs
  pub right_within : j ≤ length ys
  pub rising : IsStrictlyIncreasing merged
  pub left_below : (k m : ℕ) → k < length merged → i ≤ m → m < length xs → get_or merged k 0 < get_or xs m 0
  pub right_below : (k m : ℕ) → k < length merged → j ≤ m → m < length ys → get_or merged k 0 < get_or ys m 0
  pub has_left : (k : ℕ) → k < i → Contains merged (get_or xs k 0)
  pub has_right : (k : ℕ) → k < j → Contains merged (get_or ys k 0)
  pub only : All (λ w. Contains xs w ⊎ Contains ys w) merged

pub merging_none : (xs ys : List ℕ) → IsMerging xs ys 0 0 []
merging_none xs ys = record {
  left_within = omega arith;
  right_within = omega arith;
  rising = λ k below. absurd (omega arith);
  left_below = λ k m below from within. absurd (omega arith);
  right_below = λ k m below from within. absurd (omega arith);
  has_left = λ k below. absurd (omega arith);
  has_right = λ k below. absurd (omega arith);
  only = All-nil (λ w. Contains xs w ⊎ Contains ys w);
}

-- a rising list with a greater number behind it
rising_push : (xs : List ℕ) (y : ℕ) → IsStrictlyIncreasing xs → ((k : ℕ) → k < length xs → get_or xs k 0 < y) → IsStrictlyIncreasing (xs ++ y ∷ [])
rising_push xs y rises below k within = let up = rises k in let low = below k in grind (arith, common_steps, up, low)

-- what is left of a list is above the number that was taken
left_above : (xs : List ℕ) (i number next m : ℕ) → IsStrictlyIncreasing xs → IsStep xs i number next → next ≤ m → m < length xs → number < get_or xs m 0
left_above xs i number next m rises step from within =
    elim (cases_lt i m) [
      | inl later ↦
          let up : get_or xs i 0 < get_or xs m 0 = AllPairs-from_increasing xs rises i m 0 later within in
          elim (cases_lt i next) [
            | inl moved ↦ let at : get_or xs i 0 ≡ number = step.taken i (omega arith) moved in omega arith
            | inr stayed ↦ let low : number < get_or xs i 0 = step.above (omega (arith, step.forward)) (omega arith) in omega arith
          ]
      | inr first ↦
          let same : m ≡ i = omega (arith, step.forward) in
          let low : number < get_or xs i 0 = step.above (omega (arith, step.forward)) (omega arith) in
          rw same low
    ]

-- the number stands in one of the lists, where nothing is taken yet
pub record IsNext (xs ys : List ℕ) (i j number : ℕ) : Type 0 where
  pub one : ((i < length xs) × (get_or xs i 0 ≡ number)) ⊎ ((j < length ys) × (get_or ys j 0 ≡ number))

-- what is merged is below what is taken
all_below : (xs ys : List ℕ) (i j number : ℕ) (merged : List ℕ) → IsMerging xs ys i j merged → IsNext xs ys i j number → (k : ℕ) → k < length merged
    → get_or merged k 0 < number
all_below xs ys i j number merged m next k within =
    elim next.one [
      | inl left ↦ omega (arith, m.left_below k i within (omega arith) left.0, left.1)
      | inr right ↦ omega (arith, m.right_below k j within (omega arith) right.0, right.1)
    ]

from_one : (xs ys : List ℕ) (i j number : ℕ) → IsNext xs ys i j number → Contains xs number ⊎ Contains ys number
from_one xs ys i j number next =
    elim next.one [
      | inl left ↦ inl (subst (Contains xs) left.1 (Contains-get_or xs i 0 left.0))
      | inr right ↦ inr (subst (Contains ys) right.1 (Contains-get_or ys j 0 right.0))
    ]

-- one side's share of the step
side_below : (xs merged : List ℕ) (i number next : ℕ) → IsStrictlyIncreasing xs → IsStep xs i number next
    → ((k m : ℕ) → k < length merged → i ≤ m → m < length xs → get_or merged k 0 < get_or xs m 0) → (k m : ℕ) → k < length (merged ++ number ∷ []) → next ≤ m
    → m < length xs → get_or (merged ++ number ∷ []) k 0 < get_or xs m 0
side_below xs merged i number next rises step below k m within from inside =
    let above : number < get_or xs m 0 = left_above xs i number next m rises step from inside in
    let old : k < length merged → get_or merged k 0 < get_or xs m 0 = λ short. below k m short (omega (arith, step.forward)) inside in
    grind (arith, common_steps, above, old)

side_has : (xs merged : List ℕ) (i number next : ℕ) → IsStep xs i number next → ((k : ℕ) → k < i → Contains merged (get_or xs k 0)) → (k : ℕ) → k < next
    → Contains (merged ++ number ∷ []) (get_or xs k 0)
side_has xs merged i number next step has k below =
    elim (cases_lt k i) [
      | inl old ↦ Contains-append_left merged (number ∷ []) (get_or xs k 0) (has k old)
      | inr new ↦ subst (Contains (merged ++ number ∷ [])) (sym (step.taken k new below)) (Contains-push merged number)
    ]

-- one number more is merged
pub merging_more : (xs ys : List ℕ) (i j number i' j' : ℕ) (merged : List ℕ) → IsStrictlyIncreasing xs → IsStrictlyIncreasing ys → IsMerging xs ys i j merged
    → IsNext xs ys i j number → IsStep xs i number i' → IsStep ys j number j' → IsMerging xs ys i' j' (merged ++ number ∷ [])
merging_more xs ys i j number i' j' merged xs_rise ys_rise m next left right = record {
  left_within = left.within;
  right_within = right.within;
  rising = rising_push merged number m.rising (all_below xs ys i j number merged m next);
  left_below = side_below xs merged i number i' xs_rise left m.left_below;
  right_below = side_below ys merged j number j' ys_rise right m.right_below;
  has_left = side_has xs merged i number i' left m.has_left;
  has_right = side_has ys merged j number j' right m.has_right;
  only = All-push (λ w. Contains xs w ⊎ Contains ys w) merged number m.only (from_one xs ys i j number next);
}

-- a step takes a number
pub merging_nearer : (xs ys : List ℕ) (i j number i' j' : ℕ) → IsNext xs ys i j number → IsStep xs i number i' → IsStep ys j number j'
    → (length xs - i') + (length ys - j') < (length xs - i) + (length ys - j)
merging_nearer xs ys i j number i' j' next left right =
    elim next.one [
      | inl here ↦
          elim (cases_lt i i') [
            | inl moved ↦ omega (arith, left.within, right.forward)
            | inr stayed ↦ absurd (omega (arith, left.above (omega (arith, left.forward)) here.0, here.1))
          ]
      | inr here ↦
          elim (cases_lt j j') [
            | inl moved ↦ omega (arith, right.within, left.forward)
            | inr stayed ↦ absurd (omega (arith, right.above (omega (arith, right.forward)) here.0, here.1))
          ]
    ]

-- all are merged
pub merging_all : (xs ys : List ℕ) (i j : ℕ) (merged : List ℕ) → length xs ≤ i → length ys ≤ j → IsMerging xs ys i j merged → IsMerge xs ys merged
merging_all xs ys i j merged left right m = record {
  rising = m.rising;
  left = λ w has. subst (Contains merged) (at_zero xs w has) (m.has_left has.0 (omega (arith, has.1)));
  right = λ w has. subst (Contains merged) (at_zero ys w has) (m.has_right has.0 (omega (arith, has.1)));
  only = λ w has. All-contains (λ w. Contains xs w ⊎ Contains ys w) merged w m.only has;
}
