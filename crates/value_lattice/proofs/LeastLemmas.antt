-- The least value of the words that a test passes: it is there, and it is one.
use Rattle.std.proofs.Common.{◌≡◌, ℕ, zero, suc, ◌-◌, ◌^◌, ◌<◌, ◌≤◌, ◌⊎◌, true, List, [], ◌∷◌, length, min, max, refl, sym}
use Rattle.std.proofs.Common.{subst, inl, inr, ⊎_elim, arith, All, Contains, nat_le}
use Rattle.std.proofs.lemmas.Bool.{cases_lt, cond_both, leb-true, leb-false}
use Rattle.std.proofs.lemmas.List.Elements.{All-head, All-tail, All-contains}
use Rattle.std.specs.Int.{w32}
use Rattle.std.specs.List.Sorted.{IsStrictlyIncreasing}
use Rattle.std.specs.Prelude.{pos, negsuc, FitsSigned}
use Rattle.value_lattice.specs.Ends.{AreEnds, AreEndsOf, least_place, greatest_place, low_end, high_end}
use Rattle.value_lattice.specs.Least.{hull_of, value_of, least_of, LeastValuesExist}
use Rattle.value_lattice.specs.Passing.{words_below}
use Rattle.value_lattice.specs.Order.{place_of, word_at, rank_of, number_at}
use Rattle.value_lattice.specs.Rounding.{IsRoundedDown, IsRoundedUp, round_down, round_up}
use Rattle.value_lattice.specs.Set.{IsSet}
use Rattle.value_lattice.specs.Thresholds.{IsThresholds}
use Rattle.value_lattice.specs.Value.{IsValue, IsLeast, IsLeastOrNone, IsBetween}
use Rattle.value_lattice.specs.declared.value.Value.{Value}
use Rattle.value_lattice.specs.declared.value.Value.TheVariants.{Words, Range, Ret}
use Rattle.value_lattice.proofs.MayLemmas.{least_or_none_of_same}
use Rattle.value_lattice.proofs.SetLemmas.{place_of-word_at, word_at-place_of, place_of_below, long_is_wide}
use Rattle.value_lattice.proofs.ValueLemmas.{rank_below, range_is_least, set_is_least, hull_is_least}
use Rattle.value_lattice.proofs.WordsBelowLemmas.{words_rise, words_fit, words_pass, passing_is_there}

-- what a list contains is its first or in the rest
pub head_or_tail : (x : ℕ) (xs : List ℕ) (w : ℕ) → Contains (x ∷ xs) w → (w ≡ x) ⊎ Contains xs w
head_or_tail x xs w (zero, within, is) = inl (sym is)
head_or_tail x xs w (suc k, within, is) = inr (k, omega arith, is)

at_head : (x : ℕ) (xs : List ℕ) → Contains (x ∷ xs) x
at_head x xs = (0, omega arith, refl)

in_tail : (x : ℕ) (xs : List ℕ) (w : ℕ) → Contains xs w → Contains (x ∷ xs) w
in_tail x xs w (k, within, is) = (suc k, omega arith, is)

-- the number at a place has that place

pub number_fits : (k : ℕ) → k < 2 ^ 32 → FitsSigned w32 (number_at k)
number_fits k fits =
    cond_both (nat_le (2 ^ 31) k) (pos (k - 2 ^ 31)) (negsuc (2 ^ 31 - 1 - k)) (FitsSigned w32)
    (λ up. record { sfits = omega (arith, fits, leb-true (2 ^ 31) k up) }) (λ down. record { sfits = omega (arith, leb-false (2 ^ 31) k down) })

pub rank_of-number_at : (k : ℕ) → k < 2 ^ 32 → rank_of (number_at k) ≡ k
rank_of-number_at k fits =
    cond_both (nat_le (2 ^ 31) k) (pos (k - 2 ^ 31)) (negsuc (2 ^ 31 - 1 - k)) (λ z. rank_of z ≡ k)
    (λ up. omega (arith, fits, leb-true (2 ^ 31) k up)) (λ down. omega (arith, leb-false (2 ^ 31) k down))

-- rounding, one threshold at a time

record IsDown (t : List ℕ) (place rounded : ℕ) : Type 0 where
  has : Contains t rounded ⊎ (rounded ≡ 0)
  outward : rounded ≤ place
  nearest : (k : ℕ) → Contains t k → k ≤ place → k ≤ rounded

down_take : (k : ℕ) (ks : List ℕ) (place rounded : ℕ) → k ≤ place → IsDown ks place rounded → IsDown (k ∷ ks) place (max k rounded)
down_take k ks place rounded low rest = record {
  has =
      elim (cases_lt k rounded) [
        | inl below ↦ let same : max k rounded ≡ rounded = omega arith in rw same
            (⊎_elim (λ there. inl (in_tail k ks rounded there)) (λ none. inr none) rest.has)
        | inr above ↦ let same : max k rounded ≡ k = omega arith in rw same (inl (at_head k ks))
      ];
  outward = omega (arith, low, rest.outward);
  nearest = λ q has low_q. ⊎_elim (λ same. omega (arith, same)) (λ there. omega (arith, rest.nearest q there low_q)) (head_or_tail k ks q has);
}

down_skip : (k : ℕ) (ks : List ℕ) (place rounded : ℕ) → place < k → IsDown ks place rounded → IsDown (k ∷ ks) place rounded
down_skip k ks place rounded high rest = record {
  has = ⊎_elim (λ there. inl (in_tail k ks rounded there)) (λ none. inr none) rest.has;
  outward = rest.outward;
  nearest = λ q has low_q. ⊎_elim (λ same. absurd (omega (arith, same, low_q, high))) (λ there. rest.nearest q there low_q) (head_or_tail k ks q has);
}

down_is : (t : List ℕ) (place : ℕ) → IsDown t place (round_down t place)
down_is [] place = record { has = inr refl; outward = omega arith; nearest = λ k has low. absurd (omega (arith, has.1)) }
down_is (k ∷ ks) place =
    cond_both (nat_le k place) (max k (round_down ks place)) (round_down ks place) (IsDown (k ∷ ks) place)
    (λ low. down_take k ks place (round_down ks place) (leb-true k place low) (down_is ks place))
    (λ high. down_skip k ks place (round_down ks place) (leb-false k place high) (down_is ks place))

pub rounds_down : (t : List ℕ) (place : ℕ) → IsThresholds t → IsRoundedDown t place (round_down t place)
rounds_down t place is =
    let down : IsDown t place (round_down t place) = down_is t place in
    record {
      threshold = ⊎_elim (λ there. there) (λ none. subst (Contains t) (sym none) is.least) down.has;
      outward = down.outward;
      nearest = down.nearest;
    }

record IsUp (t : List ℕ) (place rounded : ℕ) : Type 0 where
  has : Contains t rounded ⊎ (rounded ≡ 4294967295)
  outward : place ≤ rounded
  nearest : (k : ℕ) → Contains t k → place ≤ k → rounded ≤ k

up_take : (k : ℕ) (ks : List ℕ) (place rounded : ℕ) → place ≤ k → IsUp ks place rounded → IsUp (k ∷ ks) place (min k rounded)
up_take k ks place rounded high rest = record {
  has =
      elim (cases_lt k rounded) [
        | inl below ↦ let same : min k rounded ≡ k = omega arith in rw same (inl (at_head k ks))
        | inr above ↦ let same : min k rounded ≡ rounded = omega arith in rw same
            (⊎_elim (λ there. inl (in_tail k ks rounded there)) (λ none. inr none) rest.has)
      ];
  outward = omega (arith, high, rest.outward);
  nearest = λ q has high_q. ⊎_elim (λ same. omega (arith, same)) (λ there. omega (arith, rest.nearest q there high_q)) (head_or_tail k ks q has);
}

up_skip : (k : ℕ) (ks : List ℕ) (place rounded : ℕ) → k < place → IsUp ks place rounded → IsUp (k ∷ ks) place rounded
up_skip k ks place rounded low rest = record {
  has = ⊎_elim (λ there. inl (in_tail k ks rounded there)) (λ none. inr none) rest.has;
  outward = rest.outward;
  nearest = λ q has high_q. ⊎_elim (λ same. absurd (omega (arith, same, high_q, low))) (λ there. rest.nearest q there high_q) (head_or_tail k ks q has);
}

up_is : (t : List ℕ) (place : ℕ) → place < 2 ^ 32 → IsUp t place (round_up t place)
up_is [] place fits = record { has = inr refl; outward = omega arith; nearest = λ k has low. absurd (omega (arith, has.1)) }
up_is (k ∷ ks) place fits =
    cond_both (nat_le place k) (min k (round_up ks place)) (round_up ks place) (IsUp (k ∷ ks) place)
    (λ high. up_take k ks place (round_up ks place) (leb-true place k high) (up_is ks place fits))
    (λ low. up_skip k ks place (round_up ks place) (leb-false place k low) (up_is ks place fits))

pub rounds_up : (t : List ℕ) (place : ℕ) → IsThresholds t → place < 2 ^ 32 → IsRoundedUp t place (round_up t place)
rounds_up t place is fits =
    let up : IsUp t place (round_up t place) = up_is t place fits in
    record {
      threshold = ⊎_elim (λ there. there) (λ none. subst (Contains t) (sym none) is.greatest) up.has;
      outward = up.outward;
      nearest = up.nearest;
    }

-- ends, one word at a time

end_of_one : (w : ℕ) → w < 2 ^ 32 → AreEndsOf (w ∷ []) (place_of w) (place_of w)
end_of_one w fits = record {
  between = λ u has. ⊎_elim (λ same. subst (IsBetween (place_of w) (place_of w)) (sym same) (omega arith, omega arith))
      (λ there. absurd (omega (arith, there.1))) (head_or_tail w [] u has);
  least = subst (Contains (w ∷ [])) (sym (word_at-place_of w fits)) (at_head w []);
  greatest = subst (Contains (w ∷ [])) (sym (word_at-place_of w fits)) (at_head w []);
}

end_of_more : (w : ℕ) (ws : List ℕ) (low high : ℕ) → w < 2 ^ 32 → AreEndsOf ws low high → AreEndsOf (w ∷ ws) (min (place_of w) low) (max (place_of w) high)
end_of_more w ws low high fits rest = record {
  between = λ u has.
      ⊎_elim (λ same. subst (IsBetween (min (place_of w) low) (max (place_of w) high)) (sym same) (omega arith, omega arith))
      (λ there. let within : IsBetween low high u = rest.between u there in (omega arith, omega arith)) (head_or_tail w ws u has);
  least =
      elim (cases_lt (place_of w) low) [
        | inl below ↦ let same : min (place_of w) low ≡ place_of w = omega arith in rw (same, word_at-place_of w fits) (at_head w ws)
        | inr above ↦ let same : min (place_of w) low ≡ low = omega arith in rw same (in_tail w ws (word_at low) rest.least)
      ];
  greatest =
      elim (cases_lt (place_of w) high) [
        | inl below ↦ let same : max (place_of w) high ≡ high = omega arith in rw same (in_tail w ws (word_at high) rest.greatest)
        | inr above ↦ let same : max (place_of w) high ≡ place_of w = omega arith in rw (same, word_at-place_of w fits) (at_head w ws)
      ];
}

pub ends_of_words : (w : ℕ) (ws : List ℕ) → All (λ v. v < 2 ^ 32) (w ∷ ws) → AreEndsOf (w ∷ ws) (least_place (w ∷ ws)) (greatest_place (w ∷ ws))
ends_of_words w [] fit =
    let word : w < 2 ^ 32 = All-head (λ v. v < 2 ^ 32) w [] fit in
    let below : place_of w < 2 ^ 32 = place_of_below w in
    let low : min (place_of w) 4294967295 ≡ place_of w = omega arith in
    let high : max (place_of w) 0 ≡ place_of w = omega arith in
    subst (λ (k : ℕ). AreEndsOf (w ∷ []) (least_place (w ∷ [])) k) (sym high)
    (subst (λ (k : ℕ). AreEndsOf (w ∷ []) k (place_of w)) (sym low) (end_of_one w word))
ends_of_words w (v ∷ vs) fit =
    end_of_more w (v ∷ vs) (least_place (v ∷ vs)) (greatest_place (v ∷ vs)) (All-head (λ v. v < 2 ^ 32) w (v ∷ vs) fit)
    (ends_of_words v vs (All-tail (λ v. v < 2 ^ 32) w (v ∷ vs) fit))

greatest_fits : (words : List ℕ) → greatest_place words < 2 ^ 32
greatest_fits [] = omega arith
greatest_fits (w ∷ ws) = omega (arith, greatest_fits ws, place_of_below w)

least_fits : (words : List ℕ) → least_place words < 2 ^ 32
least_fits [] = omega arith
least_fits (w ∷ ws) = omega (arith, least_fits ws)

-- the least value of rising words

threshold_fits : (t : List ℕ) (k : ℕ) → IsThresholds t → Contains t k → k < 2 ^ 32
threshold_fits t k is has = All-contains (λ v. v < 2 ^ 32) t k is.places has

hull_is : (t : List ℕ) (w : ℕ) (ws : List ℕ) → IsThresholds t → IsStrictlyIncreasing (w ∷ ws) → All (λ v. v < 2 ^ 32) (w ∷ ws) → 128 < length (w ∷ ws)
    → IsLeast t (Contains (w ∷ ws)) (hull_of t (w ∷ ws))
hull_is t w ws is rises fits many =
    let low : ℕ = least_place (w ∷ ws) in
    let high : ℕ = greatest_place (w ∷ ws) in
    let ends : AreEndsOf (w ∷ ws) low high = ends_of_words w ws fits in
    let low_fits : low < 2 ^ 32 = least_fits (w ∷ ws) in
    let high_fits : high < 2 ^ 32 = greatest_fits (w ∷ ws) in
    let down : IsRoundedDown t low (round_down t low) = rounds_down t low is in
    let up : IsRoundedUp t high (round_up t high) = rounds_up t high is high_fits in
    let down_fits : round_down t low < 2 ^ 32 = omega (arith, down.outward) in
    let up_fits : round_up t high < 2 ^ 32 = threshold_fits t (round_up t high) is up.threshold in
    hull_is_least t (w ∷ ws) low high (hull_of t (w ∷ ws)) rises fits many ends.between low_fits high_fits ends.least ends.greatest
    (range_is_least t low high (number_at (round_down t low)) (number_at (round_up t high)) (long_is_wide (w ∷ ws) low high rises fits many ends.between)
    high_fits
    (number_fits (round_down t low) down_fits) (number_fits (round_up t high) up_fits)
    (subst (IsRoundedDown t low) (sym (rank_of-number_at (round_down t low) down_fits)) down)
    (subst (IsRoundedUp t high) (sym (rank_of-number_at (round_up t high) up_fits)) up))

value_is_least : (t words : List ℕ) → IsThresholds t → IsStrictlyIncreasing words → All (λ v. v < 2 ^ 32) words
    → IsLeastOrNone t (Contains words) (value_of t words)
value_is_least t [] is rises fits = λ w word has. omega (arith, has.1)
value_is_least t (w ∷ ws) is rises fits =
    cond_both (nat_le (length (w ∷ ws)) 128) (Words (w ∷ ws)) (hull_of t (w ∷ ws)) (IsLeast t (Contains (w ∷ ws)))
    (λ few. set_is_least t (w ∷ ws) (record { some = omega arith; few = leb-true (length (w ∷ ws)) 128 few; rising = rises; fits = fits }))
    (λ many. hull_is t w ws is rises fits (leb-false (length (w ∷ ws)) 128 many))

-- there is a least value with all words that a test passes
pub least_exists : LeastValuesExist
unfolding least_of
least_exists t test is =
    least_or_none_of_same t (Contains (words_below (2 ^ 32) test)) (λ w. test w ≡ true) (value_of t (words_below (2 ^ 32) test))
    (λ w word has. words_pass (2 ^ 32) test w has) (λ w word passes. passing_is_there (2 ^ 32) test w word passes)
    (value_is_least t (words_below (2 ^ 32) test) is (words_rise (2 ^ 32) test) (words_fit (2 ^ 32) test))

-- the ends of a value
pub ends_exist : (v : Value) → IsValue v → AreEnds v (low_end v) (high_end v)
unfolding low_end high_end
ends_exist (Words []) value = absurd (omega (arith, value.some))
ends_exist (Words (w ∷ ws)) value = ends_of_words w ws value.fits
ends_exist (Range lo hi) value = (refl, refl)
ends_exist Ret value = (refl, refl)

-- ends are one
pub ends_are_one : (words : List ℕ) (low high least greatest : ℕ) → AreEndsOf words low high → AreEndsOf words least greatest → low < 2 ^ 32 → high < 2 ^ 32
    → least < 2 ^ 32 → greatest < 2 ^ 32 → (low ≡ least) × (high ≡ greatest)
ends_are_one words low high least greatest one other low_fits high_fits least_fits greatest_fits =
    let at_low : place_of (word_at low) ≡ low = place_of-word_at low low_fits in
    let at_high : place_of (word_at high) ≡ high = place_of-word_at high high_fits in
    let at_least : place_of (word_at least) ≡ least = place_of-word_at least least_fits in
    let at_greatest : place_of (word_at greatest) ≡ greatest = place_of-word_at greatest greatest_fits in
    let a : IsBetween least greatest (word_at low) = other.between (word_at low) one.least in
    let b : IsBetween least greatest (word_at high) = other.between (word_at high) one.greatest in
    let d : IsBetween low high (word_at least) = one.between (word_at least) other.least in
    let e : IsBetween low high (word_at greatest) = one.between (word_at greatest) other.greatest in
    (omega (arith, a, d, at_low, at_least), omega (arith, b, e, at_high, at_greatest))

pub low_fits : (v : Value) → IsValue v → low_end v < 2 ^ 32
unfolding low_end
low_fits (Words words) value = least_fits words
low_fits (Range lo hi) value = rank_below lo value.0
low_fits Ret value = omega arith

-- the upper end of a value is a place
pub high_fits : (v : Value) → IsValue v → high_end v < 2 ^ 32
unfolding high_end
high_fits (Words words) value = greatest_fits words
high_fits (Range lo hi) value = rank_below hi value.1
high_fits Ret value = omega arith

-- the ends of a set are those of the function
pub set_ends : (words : List ℕ) (low high : ℕ) → IsSet words → AreEndsOf words low high → low < 2 ^ 32 → high < 2 ^ 32
    → (low ≡ low_end (Words words)) × (high ≡ high_end (Words words))
set_ends words low high set ends fits_low fits_high =
    ends_are_one words low high (low_end (Words words)) (high_end (Words words)) ends (ends_exist (Words words) set) fits_low fits_high
    (low_fits (Words words) set) (high_fits (Words words) set)

-- the ends of a value are one
pub value_ends : (v : Value) (low high : ℕ) → IsValue v → AreEnds v low high → low < 2 ^ 32 → high < 2 ^ 32 → (low ≡ low_end v) × (high ≡ high_end v)
unfolding low_end high_end
value_ends (Words words) low high value ends fits_low fits_high = set_ends words low high value ends fits_low fits_high
value_ends (Range lo hi) low high value ends fits_low fits_high = ends
value_ends Ret low high value ends fits_low fits_high = ends
