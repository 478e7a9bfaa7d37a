-- Masks as sets: what their bits say of which cells they have.
use Rattle.std.proofs.Common.{◌≡◌, ◌≢◌, ℕ, zero, suc, ◌+◌, ◌^◌, ◌%◌, ◌<◌, ◌≤◌, max, ◌⊎◌, inl, inr, ◌||◌, Bool, true, false, refl, sym, ap, subst, ◌∙◌}
use Rattle.std.proofs.Common.{arith, eq-eqb}
use Rattle.std.specs.Prelude.{◌==◌, bit_or, nat_lt}
use Rattle.std.specs.Int.{bit_at}
use Rattle.std.proofs.lemmas.Bool.{and_from, and_parts, cases_eq, cases_lt, eqb-true, lt-ltb, ltb-true}
use Rattle.std.proofs.lemmas.Bool.Decides.{nat_tests}
use Rattle.std.proofs.lemmas.Nat.{or_lt, or_mod, le_or_l, pow_below}
use Rattle.std.proofs.lemmas.Nat.Bits.{bit_at_lowest, bit_at-zero, bit_at_or, bit_at-pow_same, bit_at-pow_other, bit_at-lt, bit_at_above, same_from_bits}
use Rattle.call_effects.specs.Mask.{IsMask, is_mask, TestDecidesMasks, has_cell, with_cell, union, is_within, MasksAreSets}

-- the test of numbers decides which are sets of cells
pub test_decides_masks : TestDecidesMasks
test_decides_masks mask = (is, to) where
  is : is_mask mask ≡ true → IsMask mask
  is passes =
      let parts = and_parts (nat_lt mask (2 ^ 48)) (mask % 2 == 0) passes in
      record { below = ltb-true mask (2 ^ 48) parts.0; even = eqb-true (mask % 2) 0 parts.1 }

  to : IsMask mask → is_mask mask ≡ true
  to is = and_from (nat_lt mask (2 ^ 48)) (mask % 2 == 0) (lt-ltb mask (2 ^ 48) is.below) (eq-eqb (mask % 2) 0 is.even)

-- a bit is 0 or 1
pub bit : (n k : ℕ) → (bit_at n k ≡ 0) ⊎ (bit_at n k ≡ 1)
bit n k =
    elim (cases_eq (bit_at n k) 1) [
      | inl one ↦ inr one
      | inr other ↦ inl (let below = bit_at-lt n k in omega arith)
    ]

-- a cell that is in the set has its bit
pub bit_of : (mask k : ℕ) → has_cell mask k ≡ true → bit_at mask k ≡ 1
bit_of mask k has = eqb-true (bit_at mask k) 1 has

-- a cell whose bit is set is in the mask
pub has_by : (mask k : ℕ) → bit_at mask k ≡ 1 → has_cell mask k ≡ true
has_by mask k one = eq-eqb (bit_at mask k) 1 one

-- a set of two has the cells of both
pub has-union : (a b k : ℕ) → has_cell (union a b) k ≡ (has_cell a k || has_cell b k)
has-union a b k = by_bits (bit a k) (bit b k) where
  by_bits : (bit_at a k ≡ 0) ⊎ (bit_at a k ≡ 1) → (bit_at b k ≡ 0) ⊎ (bit_at b k ≡ 1) → has_cell (union a b) k ≡ (has_cell a k || has_cell b k)
  by_bits (inl x) (inl y) = rw (bit_at_or a b k, x, y) refl
  by_bits (inl x) (inr y) = rw (bit_at_or a b k, x, y) refl
  by_bits (inr x) (inl y) = rw (bit_at_or a b k, x, y) refl
  by_bits (inr x) (inr y) = rw (bit_at_or a b k, x, y) refl

has-pow : (c k : ℕ) → has_cell (2 ^ c) k ≡ (k == c)
has-pow c k =
    elim (cases_eq k c) [
      | inl same ↦ (has_by (2 ^ c) k (ap (λ (i : ℕ). bit_at (2 ^ c) i) same ∙ bit_at-pow_same c)) ∙ sym (eq-eqb k c same)
      | inr other ↦ (let none = bit_at-pow_other c k other in let differ : (k == c) ≡ false = grind (arith, nat_tests) in rw (none, differ) refl)
    ]

-- a mask with a cell has that and its own
pub has-with : (mask c k : ℕ) → has_cell (with_cell mask c) k ≡ (has_cell mask k || (k == c))
has-with mask c k = has-union mask (2 ^ c) k ∙ ap (λ (b : Bool). has_cell mask k || b) (has-pow c k)

or_true : (b : Bool) → (b || true) ≡ true
or_true true = refl
or_true false = refl

-- a set within another has its cells
pub within_has : (a b : ℕ) → is_within a b ≡ true → (k : ℕ) → has_cell a k ≡ true → has_cell b k ≡ true
within_has a b within k has =
    let one = eqb-true (union a b) b within in
    sym (ap (λ (m : ℕ). has_cell m k) one) ∙ has-union a b k ∙ ap (λ (t : Bool). t || has_cell b k) has

-- a set whose cells another has is within it
pub within_by : (a b : ℕ) → ((k : ℕ) → has_cell a k ≡ true → has_cell b k ≡ true) → is_within a b ≡ true
within_by a b each = eq-eqb (union a b) b (same_from_bits (union a b) b (λ i. at i (bit a i) (bit b i))) where
  at : (i : ℕ) → (bit_at a i ≡ 0) ⊎ (bit_at a i ≡ 1) → (bit_at b i ≡ 0) ⊎ (bit_at b i ≡ 1) → bit_at (union a b) i ≡ bit_at b i
  at i (inl x) y = (let either = bit_at_or a b i in omega arith)
  at i (inr x) (inl y) = absurd (let one = bit_of b i (each i (has_by a i x)) in omega arith)
  at i (inr x) (inr y) = (let either = bit_at_or a b i in omega arith)

-- sets with the same cells are one
pub same_by : (a b : ℕ) → ((k : ℕ) → has_cell a k ≡ has_cell b k) → a ≡ b
same_by a b each = same_from_bits a b (λ i. at i (bit a i) (bit b i)) where
  at : (i : ℕ) → (bit_at a i ≡ 0) ⊎ (bit_at a i ≡ 1) → (bit_at b i ≡ 0) ⊎ (bit_at b i ≡ 1) → bit_at a i ≡ bit_at b i
  at i (inl x) (inl y) = x ∙ sym y
  at i (inl x) (inr y) = absurd (let one = bit_of a i (each i ∙ has_by b i y) in omega arith)
  at i (inr x) (inl y) = absurd (let one = bit_of b i (sym (each i) ∙ has_by a i x) in omega arith)
  at i (inr x) (inr y) = x ∙ sym y

-- a set within another one is the lesser number
pub within_rises : (a b : ℕ) → is_within a b ≡ true → a ≢ b → a < b
within_rises a b within differ =
    let one : union a b ≡ b = eqb-true (union a b) b within in
    let most : a ≤ union a b = le_or_l a b in
    omega arith

-- the cells of a mask
pub mask_cells : (mask c : ℕ) → IsMask mask → has_cell mask c ≡ true → (1 ≤ c) × (c < 48)
mask_cells mask c is has = (above c has, below) where
  above : (k : ℕ) → has_cell mask k ≡ true → 1 ≤ k
  above zero here = absurd (let one : bit_at mask 0 ≡ 1 = bit_of mask 0 here in let low = bit_at_lowest mask in let even = is.even in omega arith)
  above (suc k) here = omega arith

  below : c < 48
  below =
      elim (cases_eq (bit_at mask c) 1) [
        | inl one ↦ by_limit one
        | inr other ↦ absurd (other (bit_of mask c has))
      ]
    where
      by_limit : bit_at mask c ≡ 1 → c < 48
      by_limit one = elim (cases_lt c 48) [ inl lt ↦ lt | inr ge ↦ absurd (let none = bit_at_above mask 48 c is.below ge in omega arith) ]

-- what is made of masks is one
pub mask_none : IsMask 0
mask_none = record { below = omega arith; even = refl }

-- the cells of both masks are a mask
pub mask-union : (a b : ℕ) → IsMask a → IsMask b → IsMask (union a b)
mask-union a b left right =
    record {
      below = or_lt 48 a b left.below right.below;
      even = or_mod a b 1 ∙ ap (λ (x : ℕ). bit_or x (b % 2)) left.even ∙ ap (λ (y : ℕ). bit_or 0 y) right.even;
    }

pub mask-pow : (c : ℕ) → 1 ≤ c → c < 48 → IsMask (2 ^ c)
mask-pow c above below = record { below = pow_below c 48 below; even = even c above } where
  even : (k : ℕ) → 1 ≤ k → 2 ^ k % 2 ≡ 0
  even zero low = absurd (omega arith)
  even (suc k) low = omega arith

-- a mask with a cell more is one
pub mask-with : (mask c : ℕ) → IsMask mask → 1 ≤ c → c < 48 → IsMask (with_cell mask c)
mask-with mask c is above below = mask-union mask (2 ^ c) is (mask-pow c above below)

-- masks are sets of cells from 1 to 47
pub masks_are_sets : MasksAreSets
masks_are_sets =
    record {
      none = λ c has. (let zero_bit = bit_at-zero c in let one = bit_of 0 c has in omega arith);
      cells = mask_cells;
      with_one = has-with;
      union = has-union;
      within = λ a b. (within_has a b, within_by a b);
      same = same_by;
      rises = within_rises;
    }
