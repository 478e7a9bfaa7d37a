-- Runs, and the results for their words.
use Rattle.std.proofs.Common.{◌≡◌, ℕ, ◌+◌, ◌-◌, ◌^◌, ◌<◌, ◌≤◌, false, List, Option, Some, None, MatchOption, length, refl, sym, subst, inl, inr, arith, map}
use Rattle.std.proofs.Common.{Contains}
use Rattle.std.specs.List.{range_with_len}
use Rattle.std.proofs.lemmas.Bool.{cases_lt}
use Rattle.std.proofs.lemmas.List.FromFn.{length-map-range_with_len}
use Rattle.std.proofs.lemmas.List.Elements.{All-contains}
use Rattle.value_lattice.specs.Ends.{AreEndsOf}
use Rattle.value_lattice.specs.Order.{place_of, word_at}
use Rattle.value_lattice.specs.Set.{IsSet}
use Rattle.value_lattice.specs.Value.{IsBetween}
use Rattle.value_lattice.proofs.SetLemmas.{place_of-word_at, word_at_below, rising_in_part, between_are_listed}
use Rattle.value_ops.specs.Operation.{IsPointwise}
use Rattle.value_ops.specs.Row.{IsFilled}
use Rattle.value_ops.specs.Run.{IsResultBetween, IsRunOf, IsPointwiseRun}
use Rattle.value_ops.specs.declared.op.Op.{Op}
use Rattle.value_ops.specs.declared.op.Op.TheVariants.{Add, Sub}
use Rattle.value_ops.specs.declared.rows.Span.{Span}
use Rattle.word_ops.specs.Word.{sum_of, difference_of}

-- a set that has as many words as stand between its ends has each
pub run_has_all : (words : List ℕ) (low high : ℕ) → IsSet words → AreEndsOf words low high → low ≤ high → high < 2 ^ 32 → high - low < length words → (w : ℕ)
    → w < 2 ^ 32 → IsBetween low high w → Contains words w
run_has_all words low high set ends up fits many w word between =
    let all = map word_at (range_with_len low (high - low + 1)) in
    let length_is : length all ≡ high - low + 1 = length-map-range_with_len word_at low (high - low + 1) in
    rising_in_part words all set.rising
    (λ v has. between_are_listed all low high v up refl (All-contains (λ n. n < 2 ^ 32) words v set.fits has) (ends.between v has))
    (omega arith) w (between_are_listed all low high w up refl word between)

-- the word of a place
at_place : (k : ℕ) → k < 2 ^ 32 → place_of (word_at k) ≡ k
at_place k fits = place_of-word_at k fits

-- a sum between the sums of the ends
sum_at : (k m w : ℕ) → k < 2 ^ 32 → m < 2 ^ 32 → w < 2 ^ 32 → k + m ≡ place_of w + 2 ^ 31 → w ≡ sum_of (word_at k) (word_at m) false
sum_at k m w k_fits m_fits word is = omega arith

sum_split : (a b : Span) (w k m : ℕ) → w < 2 ^ 32 → a.high < 2 ^ 32 → b.high < 2 ^ 32 → a.low ≤ k → k ≤ a.high → b.low ≤ m → m ≤ b.high
    → k + m ≡ place_of w + 2 ^ 31 → IsResultBetween Add a b w
sum_split a b w k m word a_fits b_fits k_up k_down m_up m_down is =
    let k_at : place_of (word_at k) ≡ k = at_place k (omega arith) in
    let m_at : place_of (word_at m) ≡ m = at_place m (omega arith) in
    record {
      first = word_at k;
      second = word_at m;
      first_fits = word_at_below k;
      second_fits = word_at_below m;
      left = (rw k_at k_up, rw k_at k_down);
      right = (rw m_at m_up, rw m_at m_down);
      is = sum_at k m w (omega arith) (omega arith) word is;
    }

-- the sums of all words of two spans are all words of a span
pub sums_are_run : (a b s : Span) → IsFilled a → IsFilled b → a.high < 2 ^ 32 → b.high < 2 ^ 32 → s.low + 2 ^ 31 ≡ a.low + b.low
    → s.high + 2 ^ 31 ≡ a.high + b.high → s.high < 2 ^ 32 → IsRunOf Add a b s
sums_are_run a b s a_filled b_filled a_fits b_fits low high fits = record {
  filled = omega arith;
  each = λ w word between.
      elim (cases_lt (a.high + b.low) (place_of w + 2 ^ 31)) [
        | inl above ↦ sum_split a b w a.high (place_of w + 2 ^ 31 - a.high) word a_fits b_fits a_filled (omega arith) (omega arith) (omega arith) (omega arith)
        | inr below ↦ sum_split a b w (place_of w + 2 ^ 31 - b.low) b.low word a_fits b_fits (omega arith) (omega arith) (omega arith) b_filled (omega arith)
      ];
  only = λ x y xw yw left right. (omega arith, omega arith);
}

difference_at : (k m w : ℕ) → k < 2 ^ 32 → m < 2 ^ 32 → w < 2 ^ 32 → k + 2 ^ 31 ≡ place_of w + m → w ≡ difference_of (word_at k) (word_at m) false
difference_at k m w k_fits m_fits word is = omega arith

difference_split : (a b : Span) (w k m : ℕ) → w < 2 ^ 32 → a.high < 2 ^ 32 → b.high < 2 ^ 32 → a.low ≤ k → k ≤ a.high → b.low ≤ m → m ≤ b.high
    → k + 2 ^ 31 ≡ place_of w + m → IsResultBetween Sub a b w
difference_split a b w k m word a_fits b_fits k_up k_down m_up m_down is =
    let k_at : place_of (word_at k) ≡ k = at_place k (omega arith) in
    let m_at : place_of (word_at m) ≡ m = at_place m (omega arith) in
    record {
      first = word_at k;
      second = word_at m;
      first_fits = word_at_below k;
      second_fits = word_at_below m;
      left = (rw k_at k_up, rw k_at k_down);
      right = (rw m_at m_up, rw m_at m_down);
      is = difference_at k m w (omega arith) (omega arith) word is;
    }

-- the differences of all words of two spans are all words of a span
pub differences_are_run : (a b s : Span) → IsFilled a → IsFilled b → a.high < 2 ^ 32 → b.high < 2 ^ 32 → s.low + b.high ≡ a.low + 2 ^ 31
    → s.high + b.low ≡ a.high + 2 ^ 31 → s.high < 2 ^ 32 → IsRunOf Sub a b s
differences_are_run a b s a_filled b_filled a_fits b_fits low high fits = record {
  filled = omega arith;
  each = λ w word between.
      elim (cases_lt (a.high + 2 ^ 31) (place_of w + b.high)) [
        | inl above ↦ difference_split a b w a.high (a.high + 2 ^ 31 - place_of w) word a_fits b_fits a_filled (omega arith) (omega arith) (omega arith)
            (omega arith)
        | inr below ↦ difference_split a b w (place_of w + b.high - 2 ^ 31) b.high word a_fits b_fits (omega arith) (omega arith) b_filled (omega arith)
            (omega arith)
      ];
  only = λ x y xw yw left right. (omega arith, omega arith);
}

-- runs of which all results are a span
pub pointwise_run : (op : Op) (xs ys : List ℕ) (a b s : Span) → IsSet xs → IsSet ys → AreEndsOf xs a.low a.high → AreEndsOf ys b.low b.high
    → ((w : ℕ) → w < 2 ^ 32 → IsBetween a.low a.high w → Contains xs w) → ((w : ℕ) → w < 2 ^ 32 → IsBetween b.low b.high w → Contains ys w) → IsRunOf op a b s
    → IsPointwiseRun op xs ys s
pointwise_run op xs ys a b s x_set y_set x_ends y_ends x_all y_all run = record {
  filled = run.filled;
  same = λ w word. (there w word, back w);
} where
  there : (w : ℕ) → w < 2 ^ 32 → IsBetween s.low s.high w → IsPointwise op xs ys w
  there w word between =
      let of = run.each w word between in
      record { first = of.first; second = of.second; left = x_all of.first of.first_fits of.left; right = y_all of.second of.second_fits of.right; is = of.is }

  back : (w : ℕ) → IsPointwise op xs ys w → IsBetween s.low s.high w
  back w pair =
      let first : pair.first < 2 ^ 32 = All-contains (λ n. n < 2 ^ 32) xs pair.first x_set.fits pair.left in
      let second : pair.second < 2 ^ 32 = All-contains (λ n. n < 2 ^ 32) ys pair.second y_set.fits pair.right in
      subst (IsBetween s.low s.high) (sym pair.is)
      (run.only pair.first pair.second first second (x_ends.between pair.first pair.left) (y_ends.between pair.second pair.right))

-- what holds of each answer that is there
pub run_weaker : (r : Option Span) (P Q : Span → Type 0) → ((s : Span) → P s → Q s) → MatchOption r (Unit {0}) P → MatchOption r (Unit {0}) Q
run_weaker None P Q more is = is
run_weaker (Some s) P Q more is = more s is
