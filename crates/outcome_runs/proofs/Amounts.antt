-- What an addition of a number with sign adds to places and takes from them.
use Rattle.std.proofs.Common.{◌≡◌, ℕ, zero, suc, ◌+◌, ◌-◌, ◌%◌, ◌^◌, ◌<◌, ◌≤◌, Bool, true, false, cond, ltb, leb, ℤ, pos, negsuc, refl, sym, ap, subst, ◌∙◌, arith}
use Rattle.std.specs.Prelude.{◌&&◌, ◌+ℤ◌, int_le, nat_le, neg_ℤ, if◌then◌else◌}
use Rattle.std.proofs.lemmas.Bool.{and_parts, false≢true, leb-true, leb-false, ltb-true, ltb-false}
use Rattle.counter_bound.specs.Change.{down_of, up_of}
use Rattle.value_lattice.specs.Order.{number_at, rank_of}
use Rattle.context_outcomes.specs.Counting.{fits}

-- a number and another added to it are places
abbrev pub AreApart : ℕ → ℤ → Type 0
AreApart r k = (down_of k ≤ r + up_of k) × (r + up_of k < 2 ^ 32 + down_of k)

high_fits : (a : ℕ) → fits (pos a) ≡ true → a ≤ 2147483647
high_fits a is = leb-true a 2147483647 (and_parts (int_le (negsuc 2147483647) (pos a)) (int_le (pos a) (pos 2147483647)) is).1

low_fits : (a : ℕ) → fits (negsuc a) ≡ true → a ≤ 2147483647
low_fits a is = leb-true a 2147483647 (and_parts (int_le (negsuc 2147483647) (negsuc a)) (int_le (negsuc a) (pos 2147483647)) is).0

-- a sum that fits 32 bits with sign passes no end of the places
pub sum_fits : (r : ℕ) (z k : ℤ) → r < 2 ^ 32 → r ≡ rank_of z → fits z ≡ true → fits (z +ℤ k) ≡ true → AreApart r k
sum_fits r (pos x) (pos y) low is own sum = let most = high_fits (x + y) sum in (omega arith, omega (arith, is, most))
sum_fits r (pos x) (negsuc y) low is own sum = by (ltb x (suc y)) refl sum where
  by : (b : Bool) → ltb x (suc y) ≡ b → fits (cond b (negsuc (suc y - suc x)) (pos (x - suc y))) ≡ true → (suc y ≤ r + 0) × (r + 0 < 2 ^ 32 + suc y)
  by true less s =
      let below = ltb-true x (suc y) less in let most = low_fits (suc y - suc x) s in (omega (arith, is, below, most), omega (arith, is, below))
  by false less s =
      let above = ltb-false x (suc y) less in let most = high_fits (x - suc y) s in (omega (arith, is, above), omega (arith, is, above, most))
sum_fits r (negsuc x) (pos y) low is own sum = by (ltb y (suc x)) refl sum where
  by : (b : Bool) → ltb y (suc x) ≡ b → fits (cond b (negsuc (suc x - suc y)) (pos (y - suc x))) ≡ true → (0 ≤ r + y) × (r + y < 2 ^ 32 + 0)
  by true less s = let below = ltb-true y (suc x) less in let mine = low_fits x own in (omega arith, omega (arith, is, below, mine))
  by false less s =
      let above = ltb-false y (suc x) less in let most = high_fits (y - suc x) s in let mine = low_fits x own in (omega arith, omega (arith, is, above, most, mine))
sum_fits r (negsuc x) (negsuc y) low is own sum =
    let most = low_fits (suc (x + y)) sum in let mine = low_fits x own in (omega (arith, is, most, mine), omega (arith, low))

-- the number at a place fits
number_in : (k : ℕ) → k < 2 ^ 32 → fits (number_at k) ≡ true
number_in k low = by (nat_le (2 ^ 31) k) refl where
  le_true : (x y : ℕ) → x ≤ y → leb x y ≡ true
  le_true x y less = cases (leb x y) refl where
    cases : (b : Bool) → leb x y ≡ b → b ≡ true
    cases true e = refl
    cases false e = let more = leb-false x y e in absurd (omega (arith, less, more))

  both : (x y : Bool) → x ≡ true → y ≡ true → (x && y) ≡ true
  both true y one two = two
  both false y one two = one

  by : (b : Bool) → nat_le (2 ^ 31) k ≡ b → fits (if b then pos (k - 2 ^ 31) else negsuc (2 ^ 31 - 1 - k)) ≡ true
  by true e = both true (int_le (pos (k - 2 ^ 31)) (pos 2147483647)) refl (le_true (k - 2 ^ 31) 2147483647 (omega (arith, low)))
  by false e = both (int_le (negsuc 2147483647) (negsuc (2 ^ 31 - 1 - k))) true (le_true (2 ^ 31 - 1 - k) 2147483647 (omega arith)) refl

-- so an addition that fits at both ends fits between them
pub between_fits : (low high place : ℕ) (k : ℤ) → low ≤ place → place ≤ high → AreApart low k → AreApart high k → AreApart place k
between_fits low high place k one two at_low at_high =
    let a = at_low.0 in let b = at_high.1 in (omega (arith, one, a), omega (arith, two, b))

pub end_fits : (k : ℕ) (a : ℤ) → k < 2 ^ 32 → rank_of (number_at k) ≡ k → fits (number_at k +ℤ a) ≡ true → AreApart k a
end_fits k a low same sum = sum_fits k (number_at k) a low (sym same) (number_in k low) sum

-- the word of a number with sign is what its addition adds and takes, modulo 2 ^ 32
pub added_is : (w : ℕ) (z : ℤ) → w < 2 ^ 32 → (w + 2 ^ 31) % 2 ^ 32 ≡ rank_of z → fits z ≡ true → (w + down_of z) % 2 ^ 32 ≡ up_of z % 2 ^ 32
added_is w (pos n) low is own = let most = high_fits n own in omega (arith, low, is, most)
added_is w (negsuc n) low is own = let most = low_fits n own in omega (arith, low, is, most)

pub taken_is : (w : ℕ) (z : ℤ) → w < 2 ^ 32 → (w + 2 ^ 31) % 2 ^ 32 ≡ rank_of z → fits (neg_ℤ z) ≡ true
    → (w + up_of (neg_ℤ z)) % 2 ^ 32 ≡ down_of (neg_ℤ z) % 2 ^ 32
taken_is w (pos zero) low is own = omega (arith, low, is)
taken_is w (pos (suc n)) low is own = let most = low_fits n own in omega (arith, low, is, most)
taken_is w (negsuc n) low is own = let most = high_fits (suc n) own in omega (arith, low, is, most)
