-- When a value is at most another.
use Rattle.std.proofs.Common.{◌≡◌, ℕ, ◌+◌, ◌^◌, ◌<◌, ◌≤◌, List, length, get_or, refl, subst, inl, inr, arith, All, Contains, ◌↔◌}
use Rattle.std.proofs.lemmas.List.Elements.{All-contains, All-contains_itself, All-weaker}
use Rattle.std.proofs.lemmas.Bool.{false≢true, cases_lt}
use Rattle.std.proofs.lemmas.List.{get_or_default}
use Rattle.std.specs.Prelude.{ℤ, IsTrue, false}
use Rattle.value_lattice.specs.Order.{place_of, word_at, rank_of}
use Rattle.value_lattice.specs.Set.{IsSet}
use Rattle.value_lattice.specs.Value.{Has, AtMost, HasEach, IsBetween}
use Rattle.value_lattice.specs.declared.value.Value.{Value}
use Rattle.value_lattice.specs.declared.value.Value.TheVariants.{Words, Range, Ret}
use Rattle.value_lattice.proofs.SetLemmas.{place_of-word_at, word_at_below, place_of_below, between_is_long}

-- a set is in another where its words are
pub set_in_set : (xs ys : List ℕ) → IsSet xs → All (Contains ys) xs ↔ AtMost (Words xs) (Words ys)
set_in_set xs ys set = (
  λ all. record { words = λ w ra word address has. All-contains (Contains ys) xs w all has },
  λ at_most. All-weaker (Contains xs) (Contains ys) (λ w has. at_most.words w 0 (All-contains (λ w. w < 2 ^ 32) xs w set.fits has) (omega arith) has) xs
      (All-contains_itself xs),
)

-- a set is at most a range exactly where each of its words is between its ends
pub set_in_range : (xs : List ℕ) (lo hi : ℤ) → IsSet xs → All (IsBetween (rank_of lo) (rank_of hi)) xs ↔ AtMost (Words xs) (Range lo hi)
set_in_range xs lo hi set = (
  λ all. record { words = λ w ra word address has. All-contains (IsBetween (rank_of lo) (rank_of hi)) xs w all has },
  λ at_most. All-weaker (Contains xs) (IsBetween (rank_of lo) (rank_of hi))
      (λ w has. at_most.words w 0 (All-contains (λ w. w < 2 ^ 32) xs w set.fits has) (omega arith) has) xs (All-contains_itself xs),
)

-- what has all words between two places that are far apart is a range
pub between_in_range : (low high : ℕ) (lo hi : ℤ) → low ≤ high → high < 2 ^ 32
    → ((rank_of lo ≤ low) × (high ≤ rank_of hi)) ↔ HasEach (IsBetween low high) (Range lo hi)
between_in_range low high lo hi up fits =
    (λ ends. record { words = λ w ra word address between. (omega (arith, ends, between), omega (arith, ends, between)) }, back) where
      back : HasEach (IsBetween low high) (Range lo hi) → (rank_of lo ≤ low) × (high ≤ rank_of hi)
      back each =
          let at_low : place_of (word_at low) ≡ low = place_of-word_at low (omega arith) in
          let at_high : place_of (word_at high) ≡ high = place_of-word_at high fits in
          let below : Has (Range lo hi) (word_at low) 0 = each.words (word_at low) 0 (word_at_below low) (omega arith) (omega arith, omega arith) in
          let above : Has (Range lo hi) (word_at high) 0 = each.words (word_at high) 0 (word_at_below high) (omega arith) (omega arith, omega arith) in
          (omega arith, omega arith)

-- no set has each word between places so far apart
pub no_between_in_set : (low high : ℕ) (words : List ℕ) → IsSet words → low + 128 ≤ high → high < 2 ^ 32 → HasEach (IsBetween low high) (Words words) → ⊥
no_between_in_set low high words set far fits each = omega
    (arith, set.few, between_is_long words low high far fits (λ w word between. each.words w 0 word (omega arith) between))

-- the return address has not each word between two places
pub no_between_in_ret : (low high : ℕ) → low ≤ high → high < 2 ^ 32 → HasEach (IsBetween low high) Ret → ⊥
no_between_in_ret low high up fits each =
    let at_low : place_of (word_at low) ≡ low = place_of-word_at low (omega arith) in
    let zero_is : word_at low ≡ 0 = each.words (word_at low) 0 (word_at_below low) (omega arith) (omega arith, omega arith) in
    let one_is : word_at low ≡ 1 = each.words (word_at low) 1 (word_at_below low) (omega arith) (omega arith, omega arith) in
    omega arith

-- a range is in what has all between its ends
pub range_in : (lo hi : ℤ) (v : Value) → HasEach (IsBetween (rank_of lo) (rank_of hi)) v ↔ AtMost (Range lo hi) v
range_in lo hi v = (λ each. record { words = each.words }, λ at_most. record { words = at_most.words })

-- the return address is in the range that has all words
pub ret_in_range : (lo hi : ℤ) → HasEach (IsBetween 0 4294967295) (Range lo hi) ↔ AtMost Ret (Range lo hi)
ret_in_range lo hi = (
  λ each. record {
    words = λ w ra word address is. let below : place_of w < 2 ^ 32 = place_of_below w in each.words w ra word address
        (omega arith, omega arith);
  },
  λ at_most. record { words = λ w ra word address between. at_most.words w w word word refl },
)

-- one fact exactly where another, and that exactly where a third
pub iff_trans : {P Q R : Type 0} → P ↔ Q → Q ↔ R → P ↔ R
iff_trans f g = (λ p. g.0 (f.0 p), λ r. f.1 (g.1 r))

-- no answer where nothing can hold
pub iff_never : {P : Type 0} → (P → ⊥) → IsTrue false ↔ P
iff_never never = (λ no. absurd (false≢true no), λ p. absurd (never p))

-- one word more of a list stands in another
pub among_more : (xs ys : List ℕ) (i : ℕ) → i < length xs → ((k d : ℕ) → k < i → Contains ys (get_or xs k d)) → Contains ys (get_or xs i 0) → (k d : ℕ)
    → k < i + 1 → Contains ys (get_or xs k d)
among_more xs ys i within before here k d below =
    elim (cases_lt k i) [
      | inl old ↦ before k d old
      | inr new ↦ let same : k ≡ i = omega arith in rw same (subst (Contains ys) (get_or_default xs i 0 d within) here)
    ]
