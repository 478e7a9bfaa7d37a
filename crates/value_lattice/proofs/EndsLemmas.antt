-- The ends of words, one word at a time.
use Rattle.std.proofs.Common.{◌≡◌, ℕ, ◌+◌, ◌^◌, ◌<◌, ◌≤◌, List, length, get_or, min, max, sym, subst, inl, inr, arith, Contains}
use Rattle.std.proofs.lemmas.Bool.{cases_lt}
use Rattle.std.proofs.lemmas.List.Elements.{Contains-get_or}
use Rattle.value_lattice.specs.Ends.{AreEndsOf}
use Rattle.value_lattice.specs.Order.{place_of, word_at}
use Rattle.value_lattice.specs.Value.{IsBetween}
use Rattle.value_lattice.proofs.SetLemmas.{word_at-place_of}
use Rattle.value_lattice.proofs.ThresholdLemmas.{at_zero}

-- the ends of the first so many words
pub record AreEndsOfFirst (words : List ℕ) (i low high : ℕ) : Type 0 where
  pub between : (k : ℕ) → k < i → IsBetween low high (get_or words k 0)
  pub least : Contains words (word_at low)
  pub greatest : Contains words (word_at high)

-- the word at a place of the list, by its place in the order
has_at : (words : List ℕ) (i : ℕ) → i < length words → get_or words i 0 < 2 ^ 32 → Contains words (word_at (place_of (get_or words i 0)))
has_at words i within fits = subst (Contains words) (sym (word_at-place_of (get_or words i 0) fits)) (Contains-get_or words i 0 within)

-- the ends of the first word are its place
pub ends_none : (words : List ℕ) → 0 < length words → get_or words 0 0 < 2 ^ 32
    → AreEndsOfFirst words 0 (place_of (get_or words 0 0)) (place_of (get_or words 0 0))
ends_none words some fits = record {
  between = λ k below. absurd (omega arith);
  least = has_at words 0 some fits;
  greatest = has_at words 0 some fits;
}

-- the ends of one word more are the lesser and the greater
pub ends_more : (words : List ℕ) (i low high : ℕ) → i < length words → get_or words i 0 < 2 ^ 32 → AreEndsOfFirst words i low high
    → AreEndsOfFirst words (i + 1) (min low (place_of (get_or words i 0))) (max high (place_of (get_or words i 0)))
ends_more words i low high within fits so_far = record {
  between = λ k below.
      elim (cases_lt k i) [
        | inl old ↦ let was = so_far.between k old in (omega (arith, was), omega (arith, was))
        | inr new ↦ let same : k ≡ i = omega arith in rw same (omega arith, omega arith)
      ];
  least =
      elim (cases_lt low (place_of (get_or words i 0))) [
        | inl keeps ↦ let same : min low (place_of (get_or words i 0)) ≡ low = omega arith in rw same so_far.least
        | inr takes ↦ let same : min low (place_of (get_or words i 0)) ≡ place_of (get_or words i 0) = omega arith in rw same (has_at words i within fits)
      ];
  greatest =
      elim (cases_lt (place_of (get_or words i 0)) high) [
        | inl keeps ↦ let same : max high (place_of (get_or words i 0)) ≡ high = omega arith in rw same so_far.greatest
        | inr takes ↦ let same : max high (place_of (get_or words i 0)) ≡ place_of (get_or words i 0) = omega arith in rw same (has_at words i within fits)
      ];
}

-- the ends of all words that were looked at are the ends
pub ends_all : (words : List ℕ) (i low high : ℕ) → length words ≤ i → AreEndsOfFirst words i low high → AreEndsOf words low high
ends_all words i low high past first = record {
  between = λ w has. subst (IsBetween low high) (at_zero words w has) (first.between has.0 (omega (arith, has.1)));
  least = first.least;
  greatest = first.greatest;
}
