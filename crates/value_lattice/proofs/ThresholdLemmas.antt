-- Rounding to thresholds, and what they are made of.
use Rattle.std.proofs.Common.{◌≡◌, ℕ, ◌-◌, ◌^◌, ◌<◌, ◌≤◌, List, ◌++◌, length, get_or, sym, subst, ◌∙◌, inl, inr, arith, map, All, Contains, Err, nat_cmp}
use Rattle.std.proofs.lemmas.Bool.{cases_lt}
use Rattle.std.proofs.lemmas.List.{get_or-map, length-map, get_or_default}
use Rattle.std.proofs.lemmas.List.Elements.{Contains-get_or, Contains-append_left, Contains-append_right, Contains-append_cases}
use Rattle.std.proofs.lemmas.List.Kept.{AllPairs-from_increasing}
use Rattle.std.proofs.lemmas.List.Sorted.{searched}
use Rattle.std.specs.List.Sorted.{IsStrictlyIncreasing, IsBinarySearchResult}
use Rattle.std.specs.Prelude.{ℤ}
use Rattle.value_lattice.specs.Order.{rank_of}
use Rattle.value_lattice.specs.Rounding.{IsRoundedDown, IsRoundedUp}
use Rattle.value_lattice.specs.Thresholds.{IsThresholds, Widens}

-- thresholds don't fall
pub non_decreasing : (t : List ℕ) → IsStrictlyIncreasing t → (i j : ℕ) → i ≤ j → j < length t → get_or t i 0 ≤ get_or t j 0
non_decreasing t rises i j up within =
    elim (cases_lt i j) [
      | inl below ↦ let rise : get_or t i 0 < get_or t j 0 = AllPairs-from_increasing t rises i j 0 below within in omega arith
      | inr same ↦ let is : i ≡ j = omega arith in rw is (omega arith)
    ]

-- the place where a list has a number, read with another default
pub at_zero : (t : List ℕ) (k : ℕ) (has : Contains t k) → get_or t has.0 0 ≡ k
at_zero t k has = get_or_default t has.0 0 k has.1 ∙ has.2

pub record IsGap (t : List ℕ) (place i : ℕ) : Type 0 where
  pub within : i ≤ length t
  pub below : (k : ℕ) → k < i → get_or t k 0 < place
  pub above : (k : ℕ) → i ≤ k → k < length t → place < get_or t k 0

pub gap : (t : List ℕ) (place i : ℕ) → IsStrictlyIncreasing t → IsBinarySearchResult (λ y. nat_cmp y place) t (Err i) → IsGap t place i
gap t place i rises found =
    let between = searched t place (Err i) found (non_decreasing t rises) in
    record { within = between.0; below = between.1; above = between.2 }

-- where no threshold is at a place below all words, one stands before it and one behind it
pub before : (t : List ℕ) (place i : ℕ) → IsThresholds t → place < 2 ^ 32 → IsBinarySearchResult (λ y. nat_cmp y place) t (Err i) → 1 ≤ i
before t place i is fits found =
    let g = gap t place i is.rising found in
    elim (cases_lt 0 i) [
      | inl some ↦ omega arith
      | inr none ↦ absurd (omega (arith, g.above is.least.0 (omega arith) is.least.1, at_zero t 0 is.least))
    ]

-- a place that is no threshold stands before some threshold
pub after : (t : List ℕ) (place i : ℕ) → IsThresholds t → place < 2 ^ 32 → IsBinarySearchResult (λ y. nat_cmp y place) t (Err i) → i < length t
after t place i is fits found =
    let g = gap t place i is.rising found in
    elim (cases_lt i (length t)) [
      | inl some ↦ some
      | inr none ↦ absurd (omega (arith, g.below is.greatest.0 (omega (arith, is.greatest.1)), at_zero t 4294967295 is.greatest))
    ]

-- the threshold before where a place would stand is the one below it
pub rounded_down : (t : List ℕ) (place i : ℕ) → IsThresholds t → place < 2 ^ 32 → IsBinarySearchResult (λ y. nat_cmp y place) t (Err i)
    → IsRoundedDown t place (get_or t (i - 1) 0)
rounded_down t place i is fits found =
    let g = gap t place i is.rising found in
    let some : 1 ≤ i = before t place i is fits found in
    record {
      threshold = Contains-get_or t (i - 1) 0 (omega (arith, g.within));
      outward = omega (arith, g.below (i - 1) (omega arith));
      nearest = λ k has low.
          elim (cases_lt has.0 i) [
            | inl early ↦ omega (arith, non_decreasing t is.rising has.0 (i - 1) (omega arith) (omega (arith, g.within)), at_zero t k has)
            | inr late ↦ absurd (omega (arith, g.above has.0 late has.1, at_zero t k has))
          ];
    }

-- the threshold where a place would stand is the one above it
pub rounded_up : (t : List ℕ) (place i : ℕ) → IsThresholds t → place < 2 ^ 32 → IsBinarySearchResult (λ y. nat_cmp y place) t (Err i)
    → IsRoundedUp t place (get_or t i 0)
rounded_up t place i is fits found =
    let g = gap t place i is.rising found in
    let some : i < length t = after t place i is fits found in
    record {
      threshold = Contains-get_or t i 0 some;
      outward = omega (arith, g.above i (omega arith) some);
      nearest = λ k has high.
          elim (cases_lt has.0 i) [
            | inl early ↦ absurd (omega (arith, g.below has.0 early, at_zero t k has))
            | inr late ↦ omega (arith, non_decreasing t is.rising i has.0 late has.1, at_zero t k has)
          ];
    }

-- the places of numbers are thresholds where the mapped list is
pub All-places : (t : List ℕ) (numbers : List ℤ) → ((k : ℕ) → Contains (map rank_of numbers) k → Contains t k) → All (λ z. Contains t (rank_of z)) numbers
All-places t numbers has i d within =
    has (rank_of (get_or numbers i d)) (i, rw length-map within, get_or-map rank_of numbers i d (rank_of (get_or numbers i d)) within)

-- what is true of thresholds is true of them put in order with others
pub widens : (old between new : List ℕ) (list : List ℤ) → Contains old 0 → Contains old 4294967295 → between ≡ old ++ map rank_of list
    → IsStrictlyIncreasing new → All (λ k. k < 2 ^ 32) new → ((k : ℕ) → Contains between k → Contains new k) → ((k : ℕ) → Contains new k → Contains between k)
    → Widens old new list
widens old between new list least greatest is rises fits keeps adds_none =
    let from_old : (k : ℕ) → Contains old k
    → Contains new k = λ k has. keeps k (subst (λ (xs : List ℕ). Contains xs k) (sym is) (Contains-append_left old (map rank_of list) k has)) in
    record {
      thresholds = record { rising = rises; places = fits; least = from_old 0 least; greatest = from_old 4294967295 greatest };
      keeps = from_old;
      has = All-places new list (λ k has. keeps k (subst (λ (xs : List ℕ). Contains xs k) (sym is) (Contains-append_right old (map rank_of list) k has)));
      adds = λ k has. Contains-append_cases old (map rank_of list) k (subst (λ (xs : List ℕ). Contains xs k) is (adds_none k has));
    }
