-- Laws of values.
use Rattle.std.proofs.Common.{◌≡◌, ℕ, ◌+◌, ◌^◌, ◌<◌, ◌≤◌, List, length, get_or, refl, ap, arith, All, Contains}
use Rattle.std.proofs.lemmas.List.Elements.{All-contains, Contains-get_or}
use Rattle.std.specs.Prelude.{ℤ, pos, negsuc, FitsSigned}
use Rattle.std.specs.Int.{w32}
use Rattle.std.specs.List.Sorted.{IsStrictlyIncreasing}
use Rattle.value_lattice.specs.Order.{place_of, word_at, rank_of}
use Rattle.value_lattice.specs.Rounding.{IsRoundedDown, IsRoundedUp}
use Rattle.value_lattice.specs.Set.{IsSet}
use Rattle.value_lattice.specs.Value.{Has, AtMost, IsValue, IsOver, HasEach, IsLeast, IsBetween}
use Rattle.value_lattice.specs.declared.value.Value.{Value}
use Rattle.value_lattice.specs.declared.value.Value.TheVariants.{Words, Range, Ret}
use Rattle.bt_base.proofs.RisingLists.{same_rising}
use Rattle.value_lattice.proofs.SetLemmas.{place_of-word_at, word_at_below, between_is_long, length_rising_in}

-- the range between rounded ends is the least value that has all between
pub range_is_least : (t : List ℕ) (low high : ℕ) (lo hi : ℤ) → low + 128 ≤ high → high < 2 ^ 32 → FitsSigned w32 lo → FitsSigned w32 hi
    → IsRoundedDown t low (rank_of lo) → IsRoundedUp t high (rank_of hi) → IsLeast t (IsBetween low high) (Range lo hi)
range_is_least t low high lo hi far fits lo_fits hi_fits down up = record {
  over = record { value = (lo_fits, hi_fits, omega (arith, down.outward, up.outward)); ends = (down.threshold, up.threshold) };
  each = record { words = λ w ra word address between. (omega (arith, down.outward, between.0), omega (arith, up.outward, between.1)) };
  least = is_least;
} where
  is_least : (u : Value) → IsOver t u → HasEach (IsBetween low high) u → AtMost (Range lo hi) u
  is_least (Words words) over each = absurd
      (omega (arith, over.value.few, between_is_long words low high far fits (λ w word between. each.words w 0 word (omega arith) between)))
  is_least (Range first last) over each =
      let at_low : place_of (word_at low) ≡ low = place_of-word_at low (omega arith) in
      let at_high : place_of (word_at high) ≡ high = place_of-word_at high fits in
      let has_low : Has (Range first last) (word_at low) 0 = each.words (word_at low) 0 (word_at_below low) (omega arith) (omega arith, omega arith) in
      let has_high : Has (Range first last) (word_at high) 0 = each.words (word_at high) 0 (word_at_below high) (omega arith) (omega arith, omega arith) in
      let first_below : rank_of first ≤ rank_of lo = down.nearest (rank_of first) over.ends.0 (omega arith) in
      let last_above : rank_of hi ≤ rank_of last = up.nearest (rank_of last) over.ends.1 (omega arith) in
      record { words = λ w ra word address has. (omega arith, omega arith) }
  is_least Ret over each =
      let at_low : place_of (word_at low) ≡ low = place_of-word_at low (omega arith) in
      let zero_is : word_at low ≡ 0 = each.words (word_at low) 0 (word_at_below low) (omega arith) (omega arith, omega arith) in
      let one_is : word_at low ≡ 1 = each.words (word_at low) 1 (word_at_below low) (omega arith) (omega arith, omega arith) in
      absurd (omega arith)

-- where a kind has the same words, the same value is least
pub least_of_same : (t : List ℕ) (kind other : ℕ → Type 0) (v : Value) → ((w : ℕ) → w < 2 ^ 32 → kind w → other w) → ((w : ℕ) → w < 2 ^ 32 → other w → kind w)
    → IsLeast t kind v → IsLeast t other v
least_of_same t kind other v there back least = record {
  over = least.over;
  each = record { words = λ w ra word address is. least.each.words w ra word address (back w word is) };
  least = λ u over each. least.least u over (record { words = λ w ra word address is. each.words w ra word address (there w word is) });
}

-- a set is the least value that has its words
pub set_is_least : (t words : List ℕ) → IsSet words → IsLeast t (Contains words) (Words words)
set_is_least t words set = record {
  over = record { value = set; ends = tt };
  each = record { words = λ w ra word address is. is };
  least = λ u over each. record { words = λ w ra word address has. each.words w ra word address has };
}

-- the range round more words than a set has is the least value that has them
pub hull_is_least : (t words : List ℕ) (low high : ℕ) (v : Value) → IsStrictlyIncreasing words → All (λ w. w < 2 ^ 32) words → 128 < length words
    → ((w : ℕ) → Contains words w → IsBetween low high w) → low < 2 ^ 32 → high < 2 ^ 32 → Contains words (word_at low) → Contains words (word_at high)
    → IsLeast t (IsBetween low high) v → IsLeast t (Contains words) v
hull_is_least t words low high v rises fits many between low_fits high_fits has_low has_high least = record {
  over = least.over;
  each = record { words = λ w ra word address is. least.each.words w ra word address (between w is) };
  least = is_least;
} where
  is_least : (u : Value) → IsOver t u → HasEach (Contains words) u → AtMost v u
  is_least (Words others) over each =
      let in_others : (w : ℕ) → Contains words w
      → Contains others w = λ w is. each.words w 0 (All-contains (λ w. w < 2 ^ 32) words w fits is) (omega arith) is in
      absurd (omega (arith, over.value.few, length_rising_in words others rises in_others))
  is_least (Range first last) over each =
      let at_low : place_of (word_at low) ≡ low = place_of-word_at low low_fits in
      let at_high : place_of (word_at high) ≡ high = place_of-word_at high high_fits in
      let below : Has (Range first last) (word_at low) 0 = each.words (word_at low) 0 (word_at_below low) (omega arith) has_low in
      let above : Has (Range first last) (word_at high) 0 = each.words (word_at high) 0 (word_at_below high) (omega arith) has_high in
      least.least (Range first last) over (record { words = λ w ra word address is. (omega arith, omega arith) })
  is_least Ret over each =
      let zero_is : word_at low ≡ 0 = each.words (word_at low) 0 (word_at_below low) (omega arith) has_low in
      let one_is : word_at low ≡ 1 = each.words (word_at low) 1 (word_at_below low) (omega arith) has_low in
      absurd (omega arith)

-- equal ends are equal numbers
pub rank_is_exact : (x y : ℤ) → FitsSigned w32 x → FitsSigned w32 y → rank_of x ≡ rank_of y → x ≡ y
rank_is_exact (pos m) (pos n) x_fits y_fits same = ap pos (omega arith)
rank_is_exact (pos m) (negsuc n) x_fits y_fits same = absurd (omega (arith, y_fits.sfits))
rank_is_exact (negsuc m) (pos n) x_fits y_fits same = absurd (omega (arith, x_fits.sfits))
rank_is_exact (negsuc m) (negsuc n) x_fits y_fits same = ap negsuc (omega (arith, x_fits.sfits, y_fits.sfits))

-- the place of a number of 32 bits with sign fits 32 bits
pub rank_below : (x : ℤ) → FitsSigned w32 x → rank_of x < 2 ^ 32
rank_below (pos n) fits = omega (arith, fits.sfits)
rank_below (negsuc n) fits = omega (arith, fits.sfits)

-- a set is no range and no return address, a range is no return address
pub no_range_in_set : (lo hi : ℤ) (words : List ℕ) → IsValue (Range lo hi) → IsSet words → AtMost (Range lo hi) (Words words) → ⊥
no_range_in_set lo hi words range set at_most = omega (
  arith,
  set.few,
  between_is_long words (rank_of lo) (rank_of hi) range.2 (rank_below hi range.1)
      (λ w word between. at_most.words w 0 word (omega arith) between),
)

-- no set is at most the return address
pub no_set_in_ret : (words : List ℕ) → IsSet words → AtMost (Words words) Ret → ⊥
no_set_in_ret words set at_most =
    let first : Contains words (get_or words 0 0) = Contains-get_or words 0 0 set.some in
    let word : get_or words 0 0 < 2 ^ 32 = All-contains (λ w. w < 2 ^ 32) words (get_or words 0 0) set.fits first in
    let zero_is : get_or words 0 0 ≡ 0 = at_most.words (get_or words 0 0) 0 word (omega arith) first in
    let one_is : get_or words 0 0 ≡ 1 = at_most.words (get_or words 0 0) 1 word (omega arith) first in
    omega arith

-- the ends of a range stand in what is at least the range
pub low_end : (lo hi : ℤ) (v : Value) → IsValue (Range lo hi) → AtMost (Range lo hi) v → (ra : ℕ) → ra < 2 ^ 32 → Has v (word_at (rank_of lo)) ra
low_end lo hi v range at_most ra address =
    let fits : rank_of hi < 2 ^ 32 = rank_below hi range.1 in
    let far : rank_of lo + 128 ≤ rank_of hi = range.2 in
    let at : place_of (word_at (rank_of lo)) ≡ rank_of lo = place_of-word_at (rank_of lo) (omega arith) in
    at_most.words (word_at (rank_of lo)) ra (word_at_below (rank_of lo)) address (omega arith, omega arith)

pub high_end : (lo hi : ℤ) (v : Value) → IsValue (Range lo hi) → AtMost (Range lo hi) v → (ra : ℕ) → ra < 2 ^ 32 → Has v (word_at (rank_of hi)) ra
high_end lo hi v range at_most ra address =
    let fits : rank_of hi < 2 ^ 32 = rank_below hi range.1 in
    let far : rank_of lo + 128 ≤ rank_of hi = range.2 in
    let at : place_of (word_at (rank_of hi)) ≡ rank_of hi = place_of-word_at (rank_of hi) fits in
    at_most.words (word_at (rank_of hi)) ra (word_at_below (rank_of hi)) address (omega arith, omega arith)

-- no range is at most the return address
pub no_range_in_ret : (lo hi : ℤ) → IsValue (Range lo hi) → AtMost (Range lo hi) Ret → ⊥
no_range_in_ret lo hi range at_most =
    let zero_is : word_at (rank_of lo) ≡ 0 = low_end lo hi Ret range at_most 0 (omega arith) in
    let one_is : word_at (rank_of lo) ≡ 1 = low_end lo hi Ret range at_most 1 (omega arith) in
    omega arith

-- a range in a range has its ends between those
pub range_in_range : (lo hi first last : ℤ) → IsValue (Range lo hi) → AtMost (Range lo hi) (Range first last)
    → (rank_of first ≤ rank_of lo) × (rank_of hi ≤ rank_of last)
range_in_range lo hi first last range at_most =
    let fits : rank_of hi < 2 ^ 32 = rank_below hi range.1 in
    let far : rank_of lo + 128 ≤ rank_of hi = range.2 in
    let at_low : place_of (word_at (rank_of lo)) ≡ rank_of lo = place_of-word_at (rank_of lo) (omega arith) in
    let at_high : place_of (word_at (rank_of hi)) ≡ rank_of hi = place_of-word_at (rank_of hi) fits in
    let low : Has (Range first last) (word_at (rank_of lo)) 0 = low_end lo hi (Range first last) range at_most 0 (omega arith) in
    let high : Has (Range first last) (word_at (rank_of hi)) 0 = high_end lo hi (Range first last) range at_most 0 (omega arith) in
    (omega arith, omega arith)

-- values that are at most each other are the same
pub same_value : (a b : Value) → IsValue a → IsValue b → AtMost a b → AtMost b a → a ≡ b
same_value (Words xs) (Words ys) a b up down =
    ap (λ (ws : List ℕ). Words ws) (same_rising xs ys a.rising b.rising
    (λ w has. up.words w 0 (All-contains (λ w. w < 2 ^ 32) xs w a.fits has) (omega arith) has)
    (λ w has. down.words w 0 (All-contains (λ w. w < 2 ^ 32) ys w b.fits has) (omega arith) has))
same_value (Words xs) (Range lo hi) a b up down = absurd (no_range_in_set lo hi xs b a down)
same_value (Words xs) Ret a b up down = absurd (no_set_in_ret xs a up)
same_value (Range lo hi) (Words ys) a b up down = absurd (no_range_in_set lo hi ys a b up)
same_value (Range lo hi) (Range first last) a b up down =
    let there : (rank_of first ≤ rank_of lo) × (rank_of hi ≤ rank_of last) = range_in_range lo hi first last a up in
    let back : (rank_of lo ≤ rank_of first) × (rank_of last ≤ rank_of hi) = range_in_range first last lo hi b down in
    let lower : rank_of lo ≡ rank_of first = omega (arith, there, back) in
    let upper : rank_of hi ≡ rank_of last = omega (arith, there, back) in
    let lower_is : lo ≡ first = rank_is_exact lo first a.0 b.0 lower in
    let upper_is : hi ≡ last = rank_is_exact hi last a.1 b.1 upper in
    cc
same_value (Range lo hi) Ret a b up down = absurd (no_range_in_ret lo hi a up)
same_value Ret (Words ys) a b up down = absurd (no_set_in_ret ys b down)
same_value Ret (Range lo hi) a b up down = absurd (no_range_in_ret lo hi b down)
same_value Ret Ret a b up down = refl

-- a value over thresholds is one over more
pub over_more : (t more : List ℕ) (v : Value) → ((k : ℕ) → Contains t k → Contains more k) → IsOver t v → IsOver more v
over_more t more (Words words) in_more over = record { value = over.value; ends = tt }
over_more t more (Range lo hi) in_more over = record { value = over.value; ends = (in_more (rank_of lo) over.ends.0, in_more (rank_of hi) over.ends.1) }
over_more t more Ret in_more over = record { value = tt; ends = tt }

-- more thresholds, and a kind of fewer words: the least value is at most the other
pub least_is_monotone : (t more : List ℕ) (kind wider : ℕ → Type 0) (a b : Value) → ((k : ℕ) → Contains t k → Contains more k)
    → ((w : ℕ) → w < 2 ^ 32 → kind w → wider w) → IsLeast more kind a → IsLeast t wider b → AtMost a b
least_is_monotone t more kind wider a b in_more in_wider least wide =
    least.least b (over_more t more b in_more wide.over) (record { words = λ w ra word address is. wide.each.words w ra word address (in_wider w word is) })
