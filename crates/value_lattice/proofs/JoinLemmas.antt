-- The least value that is at least two others.
use Rattle.std.proofs.Common.{◌≡◌, ℕ, ◌^◌, ◌<◌, ◌≤◌, List, min, max, refl, arith, Contains, ⊎_elim}
use Rattle.std.specs.Prelude.{ℤ}
use Rattle.value_lattice.specs.Ends.{AreEnds}
use Rattle.value_lattice.specs.Merge.{IsMerge}
use Rattle.value_lattice.specs.Order.{place_of, word_at, rank_of}
use Rattle.value_lattice.specs.Set.{IsSet}
use Rattle.value_lattice.specs.Value.{Has, AtMost, IsOver, IsLeast, IsJoin, IsBetween}
use Rattle.value_lattice.specs.declared.value.Value.{Value}
use Rattle.value_lattice.specs.declared.value.Value.TheVariants.{Words, Range, Ret}
use Rattle.value_lattice.proofs.SetLemmas.{place_of-word_at, word_at_below, place_of_below, between_is_long}
use Rattle.value_lattice.proofs.ValueLemmas.{no_range_in_set, no_range_in_ret, range_in_range}

-- a join is one the other way round
pub join_flip : (t : List ℕ) (a b v : Value) → IsJoin t a b v → IsJoin t b a v
join_flip t a b v join = record { over = join.over; left = join.right; right = join.left; least = λ u over left right. join.least u over right left }

-- the union of two sets
pub join_of_sets : (t xs ys words : List ℕ) (v : Value) → IsMerge xs ys words → IsLeast t (Contains words) v → IsJoin t (Words xs) (Words ys) v
join_of_sets t xs ys words v merge least = record {
  over = least.over;
  left = record { words = λ w ra word address has. least.each.words w ra word address (merge.left w has) };
  right = record { words = λ w ra word address has. least.each.words w ra word address (merge.right w has) };
  least = λ u over left right. least.least u over
      (record {
        words = λ w ra word address has. ⊎_elim (λ here. left.words w ra word address here) (λ there. right.words w ra word address there)
            (merge.only w has);
      });
}

-- the return address may be any word
pub no_ret_in_set : (words : List ℕ) → IsSet words → AtMost Ret (Words words) → ⊥
no_ret_in_set words set at_most = omega
    (arith, set.few, between_is_long words 0 4294967295 (omega arith) (omega arith) (λ w word between. at_most.words w w word word refl))

-- the ends of what is in a range are between its own
pub ends_inside : (t : List ℕ) (v : Value) (low high : ℕ) (first last : ℤ) → IsOver t v → AreEnds v low high → low < 2 ^ 32 → high < 2 ^ 32
    → AtMost v (Range first last) → (rank_of first ≤ low) × (high ≤ rank_of last)
ends_inside t (Words words) low high first last over ends low_fits high_fits at_most =
    let at_low : place_of (word_at low) ≡ low = place_of-word_at low low_fits in
    let at_high : place_of (word_at high) ≡ high = place_of-word_at high high_fits in
    let below : Has (Range first last) (word_at low) 0 = at_most.words (word_at low) 0 (word_at_below low) (omega arith) ends.least in
    let above : Has (Range first last) (word_at high) 0 = at_most.words (word_at high) 0 (word_at_below high) (omega arith) ends.greatest in
    (omega arith, omega arith)
ends_inside t (Range lo hi) low high first last over ends low_fits high_fits at_most =
    let inside : (rank_of first ≤ rank_of lo) × (rank_of hi ≤ rank_of last) = range_in_range lo hi first last over.value at_most in
    (omega (arith, inside, ends), omega (arith, inside, ends))
ends_inside t Ret low high first last over ends low_fits high_fits at_most =
    let at_low : place_of (word_at 0) ≡ 0 = place_of-word_at 0 (omega arith) in
    let at_high : place_of (word_at 4294967295) ≡ 4294967295 = place_of-word_at 4294967295 (omega arith) in
    let below : Has (Range first last) (word_at 0) (word_at 0) = at_most.words (word_at 0) (word_at 0) (word_at_below 0) (word_at_below 0) refl in
    let above : Has (Range first last) (word_at 4294967295) (word_at 4294967295) = at_most.words (word_at 4294967295) (word_at 4294967295)
    (word_at_below 4294967295) (word_at_below 4294967295) refl in
    (omega (arith, below, at_low, ends), omega (arith, above, at_high, ends))

-- each word of a value is between its ends
pub between_ends : (v : Value) (low high w ra : ℕ) → AreEnds v low high → w < 2 ^ 32 → Has v w ra → IsBetween low high w
between_ends (Words words) low high w ra ends word has = ends.between w has
between_ends (Range lo hi) low high w ra ends word has = (omega (arith, ends, has), omega (arith, ends, has))
between_ends Ret low high w ra ends word has = let below : place_of w < 2 ^ 32 = place_of_below w in (omega (arith, ends), omega (arith, ends, below))

-- the range from the lower to the upper of the ends
pub join_of_range : (t : List ℕ) (lo hi : ℤ) (other : Value) (low high : ℕ) (v : Value) → IsOver t (Range lo hi) → IsOver t other → AreEnds other low high
    → low < 2 ^ 32 → high < 2 ^ 32 → IsLeast t (IsBetween (min (rank_of lo) low) (max (rank_of hi) high)) v → IsJoin t (Range lo hi) other v
join_of_range t lo hi other low high v range over ends low_fits high_fits least = record {
  over = least.over;
  left = record { words = λ w ra word address has. least.each.words w ra word address (omega (arith, has), omega (arith, has)) };
  right = record {
    words = λ w ra word address has. let between : IsBetween low high w = between_ends other low high w ra ends word has in least.each.words w
        ra word address (omega arith, omega arith);
  };
  least = is_least;
} where
  is_least : (u : Value) → IsOver t u → AtMost (Range lo hi) u → AtMost other u → AtMost v u
  is_least (Words words) over_u left right = absurd (no_range_in_set lo hi words range.value over_u.value left)
  is_least (Range first last) over_u left right =
      let here : (rank_of first ≤ rank_of lo) × (rank_of hi ≤ rank_of last) = range_in_range lo hi first last range.value left in
      let there : (rank_of first ≤ low) × (high ≤ rank_of last) = ends_inside t other low high first last over ends low_fits high_fits right in
      least.least (Range first last) over_u (record { words = λ w ra word address between. (omega arith, omega arith) })
  is_least Ret over_u left right = absurd (no_range_in_ret lo hi range.value left)

-- any word, for the return address and anything else
pub join_of_ret : (t : List ℕ) (other v : Value) → (AtMost other Ret → ⊥) → IsLeast t (IsBetween 0 4294967295) v → IsJoin t Ret other v
join_of_ret t other v apart least = record {
  over = least.over;
  left = record { words = λ w ra word address has. has_any w ra word address };
  right = record { words = λ w ra word address has. has_any w ra word address };
  least = is_least;
} where
  has_any : (w ra : ℕ) → w < 2 ^ 32 → ra < 2 ^ 32 → Has v w ra
  has_any w ra word address = let below : place_of w < 2 ^ 32 = place_of_below w in least.each.words w ra word address (omega arith, omega arith)

  is_least : (u : Value) → IsOver t u → AtMost Ret u → AtMost other u → AtMost v u
  is_least (Words words) over left right = absurd (no_ret_in_set words over.value left)
  is_least (Range first last) over left right = least.least (Range first last) over
      (record { words = λ w ra word address between. left.words w w word word refl })
  is_least Ret over left right = absurd (apart right)
