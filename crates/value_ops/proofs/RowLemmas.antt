-- The results of words between ends are between the ends that a row gives, and wider ends give wider ones.
use Rattle.std.proofs.Common.{◌≡◌, ℕ, zero, suc, ◌+◌, ◌-◌, ◌*◌, ◌/◌, ◌%◌, ◌^◌, ◌<◌, ◌≤◌, true, false, ◌&&◌, cond, min, refl, sym, ap, subst, ◌∙◌, inl, inr}
use Rattle.std.proofs.Common.{arith, nat_le, nat_lt, nat_eq}
use Rattle.std.specs.Prelude.{bit_and}
use Rattle.std.proofs.Math.Nat.{div-mul-le_self, div-lt_iff_lt-mul, div-le_self, pow-le-pow_right, add-mul, mul-div_cancel, mul-add-div_right}
use Rattle.std.proofs.lemmas.Bool.{and_parts, leb-true, ltb-true, eqb-false, cond_both, cond-true, cond-false, cases_lt, le-leb, lt-leb, lt-ltb, and_from}
use Rattle.std.proofs.lemmas.Nat.{and_le_l, and_le_r, le-div, pow_pos, pow-add, mul-le}
use Rattle.value_lattice.specs.Order.{place_of}
use Rattle.value_ops.specs.Row.{IsFilled, all, sums, differences, conjunctions, left_conjunctions, scales, scaled, left_shifts, right_shifts, signed_shifts}
use Rattle.value_ops.specs.declared.rows.Span.{Span}
use Rattle.word_ops.specs.Word.{sum_of, difference_of}

-- a word is in a span
pub record IsIn (s : Span) (w : ℕ) : Type 0 where
  pub above : s.low ≤ place_of w
  pub below : place_of w ≤ s.high

-- each word is among all
pub in_all : (w : ℕ) → IsIn all w
in_all w = record { above = omega arith; below = omega arith }

-- the place of a sum that fits
sum_place : (x y : ℕ) → x < 2 ^ 32 → y < 2 ^ 32 → 2 ^ 31 ≤ place_of x + place_of y → place_of x + place_of y < 2 ^ 31 + 2 ^ 32
    → place_of (sum_of x y false) + 2 ^ 31 ≡ place_of x + place_of y
sum_place x y x_word y_word low high = omega arith

-- a sum of words is in the row of sums
pub in_sums : (a b : Span) (x y : ℕ) → x < 2 ^ 32 → y < 2 ^ 32 → IsIn a x → IsIn b y → IsIn (sums a b) (sum_of x y false)
in_sums a b x y x_word y_word in_a in_b =
    cond_both (nat_le (2 ^ 31) (a.low + b.low) && nat_lt (a.high + b.high) (2 ^ 31 + 2 ^ 32))
    (record { low = a.low + b.low - 2 ^ 31; high = a.high + b.high - 2 ^ 31 }) all (λ (s : Span). IsIn s (sum_of x y false))
    (λ fits.
    let parts = and_parts (nat_le (2 ^ 31) (a.low + b.low)) (nat_lt (a.high + b.high) (2 ^ 31 + 2 ^ 32)) fits in
    let low : 2 ^ 31 ≤ a.low + b.low = leb-true (2 ^ 31) (a.low + b.low) parts.0 in
    let high : a.high + b.high < 2 ^ 31 + 2 ^ 32 = ltb-true (a.high + b.high) (2 ^ 31 + 2 ^ 32) parts.1 in
    let is : place_of (sum_of x y false) + 2 ^ 31 ≡ place_of x + place_of y = sum_place x y x_word y_word (omega (arith, in_a.above, in_b.above))
    (omega (arith, in_a.below, in_b.below)) in
    record { above = omega (arith, in_a.above, in_b.above); below = omega (arith, in_a.below, in_b.below) })
    (λ no. in_all (sum_of x y false))

difference_place : (x y : ℕ) → x < 2 ^ 32 → y < 2 ^ 32 → place_of y ≤ place_of x + 2 ^ 31 → place_of x + 2 ^ 31 < place_of y + 2 ^ 32
    → place_of (difference_of x y false) + place_of y ≡ place_of x + 2 ^ 31
difference_place x y x_word y_word low high = omega arith

-- a difference of words is in the row of differences
pub in_differences : (a b : Span) (x y : ℕ) → x < 2 ^ 32 → y < 2 ^ 32 → IsIn a x → IsIn b y → IsIn (differences a b) (difference_of x y false)
in_differences a b x y x_word y_word in_a in_b =
    cond_both (nat_le b.high (a.low + 2 ^ 31) && nat_lt (a.high + 2 ^ 31) (b.low + 2 ^ 32))
    (record { low = a.low + 2 ^ 31 - b.high; high = a.high + 2 ^ 31 - b.low }) all (λ (s : Span). IsIn s (difference_of x y false))
    (λ fits.
    let parts = and_parts (nat_le b.high (a.low + 2 ^ 31)) (nat_lt (a.high + 2 ^ 31) (b.low + 2 ^ 32)) fits in
    let low : b.high ≤ a.low + 2 ^ 31 = leb-true b.high (a.low + 2 ^ 31) parts.0 in
    let high : a.high + 2 ^ 31 < b.low + 2 ^ 32 = ltb-true (a.high + 2 ^ 31) (b.low + 2 ^ 32) parts.1 in
    let is : place_of (difference_of x y false) + place_of y ≡ place_of x + 2 ^ 31 = difference_place x y x_word y_word
    (omega (arith, in_a.above, in_b.below)) (omega (arith, in_a.below, in_b.above)) in
    record { above = omega (arith, in_a.above, in_b.below); below = omega (arith, in_a.below, in_b.above) })
    (λ no. in_all (difference_of x y false))

-- a word that isn't negative is its place less that of 0
small_place : (w : ℕ) → w < 2 ^ 31 → place_of w ≡ w + 2 ^ 31
small_place w small = omega arith

not_negative : (w : ℕ) → w < 2 ^ 32 → 2 ^ 31 ≤ place_of w → place_of w ≡ w + 2 ^ 31
not_negative w word up = omega arith

-- what is no greater than a word that isn't negative
below_not_negative : (v w : ℕ) → w < 2 ^ 32 → 2 ^ 31 ≤ place_of w → v ≤ w → (2 ^ 31 ≤ place_of v) × (place_of v ≤ place_of w)
below_not_negative v w word up low = let is : place_of w ≡ w + 2 ^ 31 = not_negative w word up in (omega arith, omega arith)

-- a conjunction of words is in the row of conjunctions
pub in_conjunctions : (a b : Span) (x y : ℕ) → x < 2 ^ 32 → y < 2 ^ 32 → IsIn a x → IsIn b y → IsIn (conjunctions a b) (bit_and x y)
in_conjunctions a b x y x_word y_word in_a in_b =
    let left : 2 ^ 31 ≤ a.low
    → (2 ^ 31 ≤ place_of (bit_and x y)) × (place_of (bit_and x y) ≤ place_of x) = λ up. below_not_negative (bit_and x y) x x_word
    (omega (arith, in_a.above)) (and_le_l x y) in
    let right : 2 ^ 31 ≤ b.low
    → (2 ^ 31 ≤ place_of (bit_and x y)) × (place_of (bit_and x y) ≤ place_of y) = λ up. below_not_negative (bit_and x y) y y_word
    (omega (arith, in_b.above)) (and_le_r x y) in
    cond_both (nat_le (2 ^ 31) a.low)
    (cond (nat_le (2 ^ 31) b.low) (record { low = 2 ^ 31; high = min a.high b.high }) (record { low = 2 ^ 31; high = a.high }))
    (cond (nat_le (2 ^ 31) b.low) (record { low = 2 ^ 31; high = b.high }) all) (λ (s : Span). IsIn s (bit_and x y))
    (λ up_a.
    let l = left (leb-true (2 ^ 31) a.low up_a) in
    cond_both (nat_le (2 ^ 31) b.low) (record { low = 2 ^ 31; high = min a.high b.high }) (record { low = 2 ^ 31; high = a.high })
    (λ (s : Span). IsIn s (bit_and x y))
    (λ up_b. let r = right (leb-true (2 ^ 31) b.low up_b) in record { above = l.0; below = omega (arith, l.1, r.1, in_a.below, in_b.below) })
    (λ no. record { above = l.0; below = omega (arith, l.1, in_a.below) }))
    (λ no_a.
    cond_both (nat_le (2 ^ 31) b.low) (record { low = 2 ^ 31; high = b.high }) all (λ (s : Span). IsIn s (bit_and x y))
    (λ up_b. let r = right (leb-true (2 ^ 31) b.low up_b) in record { above = r.0; below = omega (arith, r.1, in_b.below) })
    (λ no. in_all (bit_and x y)))

-- a conjunction with any word is in the row of the left side
pub in_left_conjunctions : (a : Span) (x y : ℕ) → x < 2 ^ 32 → IsIn a x → IsIn (left_conjunctions a) (bit_and x y)
in_left_conjunctions a x y x_word in_a =
    cond_both (nat_le (2 ^ 31) a.low) (record { low = 2 ^ 31; high = a.high }) all (λ (s : Span). IsIn s (bit_and x y))
    (λ up.
    let low : 2 ^ 31 ≤ a.low = leb-true (2 ^ 31) a.low up in
    let l = below_not_negative (bit_and x y) x x_word (omega (arith, in_a.above)) (and_le_l x y) in
    record { above = l.0; below = omega (arith, l.1, in_a.below) })
    (λ no. in_all (bit_and x y))

-- quotients rise with what is divided
pub div_rises : (a b p : ℕ) → 0 < p → a ≤ b → a / p ≤ b / p
div_rises a b p some up = let down : a / p * p ≤ a = div-mul-le_self a p in le-div (a / p) b p some (omega arith)

-- the places of products, from the products alone
product_up : (q : ℕ) → q < 2 ^ 31 → place_of (q % 2 ^ 32) ≡ 2 ^ 31 + q
product_up q bound = omega arith

product_down : (q r p : ℕ) → q + r ≡ 4294967296 * p → r ≤ 2 ^ 31 → p ≤ r → 0 < p → place_of (q % 2 ^ 32) ≡ 2 ^ 31 - r
product_down q r p whole bound some power = omega arith

positive_from : (n : ℕ) → (n ≡ 0 → ⊥) → 1 ≤ n
positive_from zero other = absurd (other refl)
positive_from (suc n) other = omega arith

pub power_split : (n : ℕ) → n < 32 → 2 ^ (32 - n) * 2 ^ n ≡ 2 ^ 32
power_split n count = let sum : (32 - n) + n ≡ 32 = omega arith in sym (pow-add 2 (32 - n) n) ∙ ap (λ (k : ℕ). 2 ^ k) sum

-- half of all words, divided
pub half_more : (n k : ℕ) → n < 32 → k < 2 ^ 32 → k / 2 ^ n < 2 ^ 31 + 2 ^ 31 / 2 ^ n
half_more n k count word =
    elim (cases_lt k (2 ^ 31)) [
      | inl low ↦ let less : k / 2 ^ n ≤ k = div-le_self k (2 ^ n) in omega arith
      | inr up ↦
          let sum : (31 - n) + n ≡ 31 = omega arith in
          let split : 2 ^ (31 - n) * 2 ^ n ≡ 2 ^ 31 = sym (pow-add 2 (31 - n) n) ∙ ap (λ (e : ℕ). 2 ^ e) sum in
          let whole : 2 ^ 31 / 2 ^ n ≡ 2 ^ (31 - n) = ap (λ (e : ℕ). e / 2 ^ n) (sym split) ∙ mul-div_cancel (2 ^ (31 - n)) (pow_pos n) in
          let parts : k ≡ 2 ^ (31 - n) * 2 ^ n + (k - 2 ^ 31) = omega (arith, split) in
          let quotient : k / 2 ^ n ≡ 2 ^ (31 - n) + (k - 2 ^ 31) / 2 ^ n = ap (λ (e : ℕ). e / 2 ^ n) parts
          ∙ mul-add-div_right (pow_pos n) (2 ^ (31 - n)) (k - 2 ^ 31) in
          let less : (k - 2 ^ 31) / 2 ^ n ≤ k - 2 ^ 31 = div-le_self (k - 2 ^ 31) (2 ^ n) in
          omega arith
    ]

back_to_place : (q h : ℕ) → q < 2 ^ 31 + h → h ≤ 2 ^ 31 → place_of ((q + 2 ^ 32 - h) % 2 ^ 32) ≡ q + 2 ^ 31 - h
back_to_place q h bound half = omega arith

-- the word at a place shifted, with the sign
abbrev pub shifted_at : ℕ → ℕ → ℕ
shifted_at n k = (k / 2 ^ n + 2 ^ 32 - 2 ^ 31 / 2 ^ n) % 2 ^ 32

scaled_up : (n k : ℕ) → 2 ^ 31 ≤ k → scaled n k ≡ 2 ^ 31 + (k - 2 ^ 31) * 2 ^ n
scaled_up n k up = cond-true (nat_le (2 ^ 31) k) (2 ^ 31 + (k - 2 ^ 31) * 2 ^ n) (2 ^ 31 - (2 ^ 31 - k) * 2 ^ n) (le-leb (2 ^ 31) k up)

scaled_down : (n k : ℕ) → k < 2 ^ 31 → scaled n k ≡ 2 ^ 31 - (2 ^ 31 - k) * 2 ^ n
scaled_down n k low = cond-false (nat_le (2 ^ 31) k) (2 ^ 31 + (k - 2 ^ 31) * 2 ^ n) (2 ^ 31 - (2 ^ 31 - k) * 2 ^ n) (lt-leb (2 ^ 31) k low)

scales_up : (n k : ℕ) → scales n k ≡ true → 2 ^ 31 ≤ k → (k - 2 ^ 31) * 2 ^ n < 2 ^ 31
scales_up n k fits up = ltb-true ((k - 2 ^ 31) * 2 ^ n) (2 ^ 31)
    (sym (cond-true (nat_le (2 ^ 31) k) (nat_lt ((k - 2 ^ 31) * 2 ^ n) (2 ^ 31)) (nat_le ((2 ^ 31 - k) * 2 ^ n) (2 ^ 31)) (le-leb (2 ^ 31) k up)) ∙ fits)

scales_down : (n k : ℕ) → scales n k ≡ true → k < 2 ^ 31 → (2 ^ 31 - k) * 2 ^ n ≤ 2 ^ 31
scales_down n k fits low = leb-true ((2 ^ 31 - k) * 2 ^ n) (2 ^ 31)
    (sym (cond-false (nat_le (2 ^ 31) k) (nat_lt ((k - 2 ^ 31) * 2 ^ n) (2 ^ 31)) (nat_le ((2 ^ 31 - k) * 2 ^ n) (2 ^ 31)) (lt-leb (2 ^ 31) k low)) ∙ fits)

-- products rise with the number
pub scaled_rises : (n k m : ℕ) → k ≤ m → scaled n k ≤ scaled n m
scaled_rises n k m up =
    elim (cases_lt k (2 ^ 31)) [
      | inl low_k ↦
          elim (cases_lt m (2 ^ 31)) [
            | inl low_m ↦ omega (
              arith,
              scaled_down n k low_k,
              scaled_down n m low_m,
              mul-le (2 ^ 31 - m) (2 ^ n) (2 ^ 31 - k) (2 ^ n) (omega arith)
                  (omega arith),
            )
            | inr up_m ↦ omega (arith, scaled_down n k low_k, scaled_up n m up_m)
          ]
      | inr up_k ↦ omega (arith, scaled_up n k up_k, scaled_up n m (omega arith), mul-le (k - 2 ^ 31) (2 ^ n) (m - 2 ^ 31) (2 ^ n) (omega arith) (omega arith))
    ]

-- what is between numbers whose products fit has one that fits
pub scales_between : (n low k high : ℕ) → low ≤ k → k ≤ high → scales n low ≡ true → scales n high ≡ true → scales n k ≡ true
scales_between n low k high up down fits_low fits_high =
    elim (cases_lt k (2 ^ 31)) [
      | inl low_k ↦
          let low_fits : (2 ^ 31 - low) * 2 ^ n ≤ 2 ^ 31 = scales_down n low fits_low (omega arith) in
          let less : (2 ^ 31 - k) * 2 ^ n ≤ (2 ^ 31 - low) * 2 ^ n = mul-le (2 ^ 31 - k) (2 ^ n) (2 ^ 31 - low) (2 ^ n) (omega arith) (omega arith) in
          cond-false (nat_le (2 ^ 31) k) (nat_lt ((k - 2 ^ 31) * 2 ^ n) (2 ^ 31)) (nat_le ((2 ^ 31 - k) * 2 ^ n) (2 ^ 31)) (lt-leb (2 ^ 31) k low_k)
          ∙ le-leb ((2 ^ 31 - k) * 2 ^ n) (2 ^ 31) (omega arith)
      | inr up_k ↦
          let high_fits : (high - 2 ^ 31) * 2 ^ n < 2 ^ 31 = scales_up n high fits_high (omega arith) in
          let less : (k - 2 ^ 31) * 2 ^ n ≤ (high - 2 ^ 31) * 2 ^ n = mul-le (k - 2 ^ 31) (2 ^ n) (high - 2 ^ 31) (2 ^ n) (omega arith) (omega arith) in
          cond-true (nat_le (2 ^ 31) k) (nat_lt ((k - 2 ^ 31) * 2 ^ n) (2 ^ 31)) (nat_le ((2 ^ 31 - k) * 2 ^ n) (2 ^ 31)) (le-leb (2 ^ 31) k up_k)
          ∙ lt-ltb ((k - 2 ^ 31) * 2 ^ n) (2 ^ 31) (omega arith)
    ]

-- the place of a product that fits
shifted_place : (n x : ℕ) → x < 2 ^ 32 → scales n (place_of x) ≡ true → place_of (x * 2 ^ n % 2 ^ 32) ≡ scaled n (place_of x)
shifted_place n x word fits =
    elim (cases_lt (place_of x) (2 ^ 31)) [
      | inl low ↦
          let d : ℕ = 2 ^ 32 - x in
          let is : 2 ^ 31 - place_of x ≡ d = omega arith in
          let bound : d * 2 ^ n ≤ 2 ^ 31 = subst (λ (e : ℕ). e * 2 ^ n ≤ 2 ^ 31) is (scales_down n (place_of x) fits low) in
          let value : scaled n (place_of x) ≡ 2 ^ 31 - d * 2 ^ n = scaled_down n (place_of x) low ∙ ap (λ (e : ℕ). 2 ^ 31 - e * 2 ^ n) is in
          let some : 1 * 2 ^ n ≤ d * 2 ^ n = mul-le 1 (2 ^ n) d (2 ^ n) (omega arith) (omega arith) in
          let power : 0 < 2 ^ n = pow_pos n in
          let total : x * 2 ^ n + d * 2 ^ n ≡ (x + d) * 2 ^ n = sym (add-mul x d (2 ^ n)) in
          let whole : (x + d) * 2 ^ n ≡ 4294967296 * 2 ^ n = ap (λ (e : ℕ). e * 2 ^ n) (omega arith) in
          product_down (x * 2 ^ n) (d * 2 ^ n) (2 ^ n) (omega arith) bound (omega arith) power ∙ sym value
      | inr up ↦
          let is : place_of x - 2 ^ 31 ≡ x = omega arith in
          let bound : x * 2 ^ n < 2 ^ 31 = subst (λ (e : ℕ). e * 2 ^ n < 2 ^ 31) is (scales_up n (place_of x) fits up) in
          let value : scaled n (place_of x) ≡ 2 ^ 31 + x * 2 ^ n = scaled_up n (place_of x) up ∙ ap (λ (e : ℕ). 2 ^ 31 + e * 2 ^ n) is in
          product_up (x * 2 ^ n) bound ∙ sym value
    ]

-- a word shifted left is in the row of shifts
pub in_left_shifts : (n : ℕ) (a : Span) (x : ℕ) → x < 2 ^ 32 → IsIn a x → IsIn (left_shifts n a) (x * 2 ^ n % 2 ^ 32)
in_left_shifts n a x word in_a =
    cond_both (scales n a.low && scales n a.high) (record { low = scaled n a.low; high = scaled n a.high }) all (λ (s : Span). IsIn s (x * 2 ^ n % 2 ^ 32))
    (λ fits.
    let parts = and_parts (scales n a.low) (scales n a.high) fits in
    let here : scales n (place_of x) ≡ true = scales_between n a.low (place_of x) a.high in_a.above in_a.below parts.0 parts.1 in
    let is : place_of (x * 2 ^ n % 2 ^ 32) ≡ scaled n (place_of x) = shifted_place n x word here in
    record { above = rw is (scaled_rises n a.low (place_of x) in_a.above); below = rw is (scaled_rises n (place_of x) a.high in_a.below) })
    (λ no. in_all (x * 2 ^ n % 2 ^ 32))

-- a word shifted right is in the row of shifts
pub in_right_shifts : (n : ℕ) (a : Span) (x : ℕ) → n < 32 → x < 2 ^ 32 → IsIn a x → IsIn (right_shifts n a) (x / 2 ^ n)
in_right_shifts n a x count word in_a =
    cond_both (nat_le (2 ^ 31) a.low) (record { low = 2 ^ 31 + (a.low - 2 ^ 31) / 2 ^ n; high = 2 ^ 31 + (a.high - 2 ^ 31) / 2 ^ n })
    (cond (nat_eq n 0) all (record { low = 2 ^ 31; high = 2 ^ 31 + 2 ^ (32 - n) - 1 })) (λ (s : Span). IsIn s (x / 2 ^ n))
    (λ up.
    let low : 2 ^ 31 ≤ a.low = leb-true (2 ^ 31) a.low up in
    let at : place_of x ≡ x + 2 ^ 31 = not_negative x word (omega (arith, in_a.above)) in
    let less : x / 2 ^ n ≤ x = div-le_self x (2 ^ n) in
    let is : place_of (x / 2 ^ n) ≡ x / 2 ^ n + 2 ^ 31 = small_place (x / 2 ^ n) (omega (arith, at)) in
    let lower : (a.low - 2 ^ 31) / 2 ^ n ≤ x / 2 ^ n = div_rises (a.low - 2 ^ 31) x (2 ^ n) (pow_pos n) (omega (arith, in_a.above)) in
    let upper : x / 2 ^ n ≤ (a.high - 2 ^ 31) / 2 ^ n = div_rises x (a.high - 2 ^ 31) (2 ^ n) (pow_pos n) (omega (arith, in_a.below)) in
    record { above = omega arith; below = omega arith })
    (λ down.
    cond_both (nat_eq n 0) all (record { low = 2 ^ 31; high = 2 ^ 31 + 2 ^ (32 - n) - 1 }) (λ (s : Span). IsIn s (x / 2 ^ n))
    (λ none. in_all (x / 2 ^ n))
    (λ some.
    let positive : 1 ≤ n = positive_from n (eqb-false n 0 some) in
    let split : 2 ^ (32 - n) * 2 ^ n ≡ 2 ^ 32 = power_split n count in
    let below : x / 2 ^ n < 2 ^ (32 - n) = (div-lt_iff_lt-mul {k = 2 ^ n} {x = x} {y = 2 ^ (32 - n)} (pow_pos n)).1 (omega arith) in
    let fewer : 32 - n ≤ 31 = omega arith in
    let half : 2 ^ (32 - n) ≤ 2 ^ 31 = pow-le-pow_right {n = 2} (omega arith) {i = 32 - n} {j = 31} fewer in
    let is : place_of (x / 2 ^ n) ≡ x / 2 ^ n + 2 ^ 31 = small_place (x / 2 ^ n) (omega arith) in
    record { above = omega arith; below = omega arith }))

-- a place shifted, with the sign
signed_place : (n x : ℕ) → n < 32 → place_of (shifted_at n (place_of x)) ≡ place_of x / 2 ^ n + 2 ^ 31 - 2 ^ 31 / 2 ^ n
signed_place n x count =
    let k : ℕ = place_of x in
    let bound : k / 2 ^ n < 2 ^ 31 + 2 ^ 31 / 2 ^ n = half_more n k count (omega arith) in
    let half : 2 ^ 31 / 2 ^ n ≤ 2 ^ 31 = div-le_self (2 ^ 31) (2 ^ n) in
    back_to_place (place_of x / 2 ^ n) (2 ^ 31 / 2 ^ n) bound half

-- a word shifted with its sign is in the row of such shifts
pub in_signed_shifts : (n : ℕ) (a : Span) (x : ℕ) → n < 32 → IsIn a x → IsIn (signed_shifts n a) (shifted_at n (place_of x))
in_signed_shifts n a x count in_a =
    let is : place_of (shifted_at n (place_of x)) ≡ place_of x / 2 ^ n + 2 ^ 31 - 2 ^ 31 / 2 ^ n = signed_place n x count in
    let lower : a.low / 2 ^ n ≤ place_of x / 2 ^ n = div_rises a.low (place_of x) (2 ^ n) (pow_pos n) in_a.above in
    let upper : place_of x / 2 ^ n ≤ a.high / 2 ^ n = div_rises (place_of x) a.high (2 ^ n) (pow_pos n) in_a.below in
    record { above = omega arith; below = omega arith }

-- a span is in another
pub record IsWider (s wide : Span) : Type 0 where
  pub low : wide.low ≤ s.low
  pub high : s.high ≤ wide.high

-- all words are wider than any span
pub all_is_wider : (s : Span) → s.high < 2 ^ 32 → IsWider s all
all_is_wider s fits = record { low = omega arith; high = omega arith }

sums_fit : (c d : Span) → (sums c d).high < 2 ^ 32
sums_fit c d =
    cond_both (nat_le (2 ^ 31) (c.low + d.low) && nat_lt (c.high + d.high) (2 ^ 31 + 2 ^ 32))
    (record { low = c.low + d.low - 2 ^ 31; high = c.high + d.high - 2 ^ 31 }) all (λ (s : Span). s.high < 2 ^ 32)
    (λ fits. omega (
      arith,
      ltb-true (c.high + d.high) (2 ^ 31 + 2 ^ 32)
          ((and_parts (nat_le (2 ^ 31) (c.low + d.low)) (nat_lt (c.high + d.high) (2 ^ 31 + 2 ^ 32)) fits).1),
    ))
    (λ no. omega arith)

-- the row of sums widens with its sides
pub sums_widen : (a b c d : Span) → IsFilled a → IsFilled b → IsFilled c → IsFilled d → IsWider c a → IsWider d b → IsWider (sums c d) (sums a b)
sums_widen a b c d fa fb fc fd wa wb =
    cond_both (nat_le (2 ^ 31) (a.low + b.low) && nat_lt (a.high + b.high) (2 ^ 31 + 2 ^ 32))
    (record { low = a.low + b.low - 2 ^ 31; high = a.high + b.high - 2 ^ 31 }) all (λ (s : Span). IsWider (sums c d) s)
    (λ fits.
    let parts = and_parts (nat_le (2 ^ 31) (a.low + b.low)) (nat_lt (a.high + b.high) (2 ^ 31 + 2 ^ 32)) fits in
    let low : 2 ^ 31 ≤ a.low + b.low = leb-true (2 ^ 31) (a.low + b.low) parts.0 in
    let high : a.high + b.high < 2 ^ 31 + 2 ^ 32 = ltb-true (a.high + b.high) (2 ^ 31 + 2 ^ 32) parts.1 in
    let is : sums c d ≡ record { low = c.low + d.low - 2 ^ 31; high = c.high + d.high - 2 ^ 31 } = cond-true
    (nat_le (2 ^ 31) (c.low + d.low) && nat_lt (c.high + d.high) (2 ^ 31 + 2 ^ 32))
    (record { low = c.low + d.low - 2 ^ 31; high = c.high + d.high - 2 ^ 31 }) all
    (and_from (nat_le (2 ^ 31) (c.low + d.low)) (nat_lt (c.high + d.high) (2 ^ 31 + 2 ^ 32))
    (le-leb (2 ^ 31) (c.low + d.low) (omega (arith, wa.low, wb.low))) (lt-ltb (c.high + d.high) (2 ^ 31 + 2 ^ 32) (omega (arith, wa.high, wb.high)))) in
    rw is (record { low = omega (arith, wa.low, wb.low); high = omega (arith, wa.high, wb.high) }))
    (λ no. all_is_wider (sums c d) (sums_fit c d))

differences_fit : (c d : Span) → (differences c d).high < 2 ^ 32
differences_fit c d =
    cond_both (nat_le d.high (c.low + 2 ^ 31) && nat_lt (c.high + 2 ^ 31) (d.low + 2 ^ 32))
    (record { low = c.low + 2 ^ 31 - d.high; high = c.high + 2 ^ 31 - d.low }) all (λ (s : Span). s.high < 2 ^ 32)
    (λ fits. omega (
      arith,
      ltb-true (c.high + 2 ^ 31) (d.low + 2 ^ 32)
          ((and_parts (nat_le d.high (c.low + 2 ^ 31)) (nat_lt (c.high + 2 ^ 31) (d.low + 2 ^ 32)) fits).1),
    ))
    (λ no. omega arith)

-- the row of differences widens with its sides
pub differences_widen : (a b c d : Span) → IsFilled a → IsFilled b → IsFilled c → IsFilled d → IsWider c a → IsWider d b
    → IsWider (differences c d) (differences a b)
differences_widen a b c d fa fb fc fd wa wb =
    cond_both (nat_le b.high (a.low + 2 ^ 31) && nat_lt (a.high + 2 ^ 31) (b.low + 2 ^ 32))
    (record { low = a.low + 2 ^ 31 - b.high; high = a.high + 2 ^ 31 - b.low }) all (λ (s : Span). IsWider (differences c d) s)
    (λ fits.
    let parts = and_parts (nat_le b.high (a.low + 2 ^ 31)) (nat_lt (a.high + 2 ^ 31) (b.low + 2 ^ 32)) fits in
    let low : b.high ≤ a.low + 2 ^ 31 = leb-true b.high (a.low + 2 ^ 31) parts.0 in
    let high : a.high + 2 ^ 31 < b.low + 2 ^ 32 = ltb-true (a.high + 2 ^ 31) (b.low + 2 ^ 32) parts.1 in
    let is : differences c d ≡ record { low = c.low + 2 ^ 31 - d.high; high = c.high + 2 ^ 31 - d.low } = cond-true
    (nat_le d.high (c.low + 2 ^ 31) && nat_lt (c.high + 2 ^ 31) (d.low + 2 ^ 32))
    (record { low = c.low + 2 ^ 31 - d.high; high = c.high + 2 ^ 31 - d.low }) all
    (and_from (nat_le d.high (c.low + 2 ^ 31)) (nat_lt (c.high + 2 ^ 31) (d.low + 2 ^ 32))
    (le-leb d.high (c.low + 2 ^ 31) (omega (arith, wa.low, wb.high))) (lt-ltb (c.high + 2 ^ 31) (d.low + 2 ^ 32) (omega (arith, wa.high, wb.low)))) in
    rw is (record { low = omega (arith, wa.low, wb.high); high = omega (arith, wa.high, wb.low) }))
    (λ no. all_is_wider (differences c d) (differences_fit c d))

-- what a conjunction's ends are, and that they fit
conjunctions_fit : (c d : Span) → c.high < 2 ^ 32 → d.high < 2 ^ 32 → (conjunctions c d).high < 2 ^ 32
conjunctions_fit c d fc fd =
    cond_both (nat_le (2 ^ 31) c.low)
    (cond (nat_le (2 ^ 31) d.low) (record { low = 2 ^ 31; high = min c.high d.high }) (record { low = 2 ^ 31; high = c.high }))
    (cond (nat_le (2 ^ 31) d.low) (record { low = 2 ^ 31; high = d.high }) all) (λ (s : Span). s.high < 2 ^ 32)
    (λ up. cond_both (nat_le (2 ^ 31) d.low) (record { low = 2 ^ 31; high = min c.high d.high }) (record { low = 2 ^ 31; high = c.high })
    (λ (s : Span). s.high < 2 ^ 32) (λ yes_d. omega arith) (λ no_d. fc))
    (λ no. cond_both (nat_le (2 ^ 31) d.low) (record { low = 2 ^ 31; high = d.high }) all (λ (s : Span). s.high < 2 ^ 32) (λ yes_d. fd) (λ no_d. omega arith))

-- where a side isn't negative, the conjunctions are from 0 to its greatest at most
conjunctions_left : (c d : Span) → 2 ^ 31 ≤ c.low → (2 ^ 31 ≤ (conjunctions c d).low) × ((conjunctions c d).high ≤ c.high)
conjunctions_left c d up =
    rw (cond-true (nat_le (2 ^ 31) c.low) (cond (nat_le (2 ^ 31) d.low) (record { low = 2 ^ 31; high = min c.high d.high })
    (record { low = 2 ^ 31; high = c.high })) (cond (nat_le (2 ^ 31) d.low) (record { low = 2 ^ 31; high = d.high }) all) (le-leb (2 ^ 31) c.low up))
    (cond_both (nat_le (2 ^ 31) d.low) (record { low = 2 ^ 31; high = min c.high d.high }) (record { low = 2 ^ 31; high = c.high })
    (λ (s : Span). (2 ^ 31 ≤ s.low) × (s.high ≤ c.high)) (λ yes_d. (omega arith, omega arith)) (λ no_d. (omega arith, omega arith)))

conjunctions_right : (c d : Span) → 2 ^ 31 ≤ d.low → (2 ^ 31 ≤ (conjunctions c d).low) × ((conjunctions c d).high ≤ d.high)
conjunctions_right c d up =
    cond_both (nat_le (2 ^ 31) c.low)
    (cond (nat_le (2 ^ 31) d.low) (record { low = 2 ^ 31; high = min c.high d.high }) (record { low = 2 ^ 31; high = c.high }))
    (cond (nat_le (2 ^ 31) d.low) (record { low = 2 ^ 31; high = d.high }) all) (λ (s : Span). (2 ^ 31 ≤ s.low) × (s.high ≤ d.high))
    (λ up_c. rw (cond-true {A = Span} (nat_le (2 ^ 31) d.low) (record { low = 2 ^ 31; high = min c.high d.high }) (record { low = 2 ^ 31; high = c.high })
    (le-leb (2 ^ 31) d.low up)) (omega arith, omega arith))
    (λ no_c. rw (cond-true {A = Span} (nat_le (2 ^ 31) d.low) (record { low = 2 ^ 31; high = d.high }) all (le-leb (2 ^ 31) d.low up))
    (omega arith, omega arith))

-- the row of conjunctions widens with its sides
pub conjunctions_widen : (a b c d : Span) → c.high < 2 ^ 32 → d.high < 2 ^ 32 → IsWider c a → IsWider d b → IsWider (conjunctions c d) (conjunctions a b)
conjunctions_widen a b c d fc fd wa wb =
    let left : 2 ^ 31 ≤ a.low → (2 ^ 31 ≤ (conjunctions c d).low) × ((conjunctions c d).high ≤ c.high) = λ up. conjunctions_left c d (omega (arith, wa.low)) in
    let right : 2 ^ 31 ≤ b.low
    → (2 ^ 31 ≤ (conjunctions c d).low) × ((conjunctions c d).high ≤ d.high) = λ up. conjunctions_right c d (omega (arith, wb.low)) in
    cond_both (nat_le (2 ^ 31) a.low)
    (cond (nat_le (2 ^ 31) b.low) (record { low = 2 ^ 31; high = min a.high b.high }) (record { low = 2 ^ 31; high = a.high }))
    (cond (nat_le (2 ^ 31) b.low) (record { low = 2 ^ 31; high = b.high }) all) (λ (s : Span). IsWider (conjunctions c d) s)
    (λ up_a.
    let l = left (leb-true (2 ^ 31) a.low up_a) in
    cond_both (nat_le (2 ^ 31) b.low) (record { low = 2 ^ 31; high = min a.high b.high }) (record { low = 2 ^ 31; high = a.high })
    (λ (s : Span). IsWider (conjunctions c d) s)
    (λ up_b. let r = right (leb-true (2 ^ 31) b.low up_b) in record { low = l.0; high = omega (arith, l.1, r.1, wa.high, wb.high) })
    (λ no. record { low = l.0; high = omega (arith, l.1, wa.high) }))
    (λ no_a.
    cond_both (nat_le (2 ^ 31) b.low) (record { low = 2 ^ 31; high = b.high }) all (λ (s : Span). IsWider (conjunctions c d) s)
    (λ up_b. let r = right (leb-true (2 ^ 31) b.low up_b) in record { low = r.0; high = omega (arith, r.1, wb.high) })
    (λ no. all_is_wider (conjunctions c d) (conjunctions_fit c d fc fd)))

-- the row of the left side widens with it
pub left_conjunctions_widen : (a c : Span) → c.high < 2 ^ 32 → IsWider c a → IsWider (left_conjunctions c) (left_conjunctions a)
left_conjunctions_widen a c fc wa =
    cond_both (nat_le (2 ^ 31) a.low) (record { low = 2 ^ 31; high = a.high }) all (λ (s : Span). IsWider (left_conjunctions c) s)
    (λ up.
    let low : 2 ^ 31 ≤ a.low = leb-true (2 ^ 31) a.low up in
    rw (cond-true (nat_le (2 ^ 31) c.low) (record { low = 2 ^ 31; high = c.high }) all (le-leb (2 ^ 31) c.low (omega (arith, wa.low))))
    (record { low = omega arith; high = wa.high }))
    (λ no. all_is_wider (left_conjunctions c) (cond_both (nat_le (2 ^ 31) c.low) (record { low = 2 ^ 31; high = c.high }) all (λ (s : Span). s.high < 2 ^ 32)
    (λ yes_c. fc) (λ no_c. omega arith)))

scaled_fits : (n k : ℕ) → scales n k ≡ true → scaled n k < 2 ^ 32
scaled_fits n k fits =
    elim (cases_lt k (2 ^ 31)) [
      | inl low ↦ omega (arith, scaled_down n k low)
      | inr up ↦ omega (arith, scaled_up n k up, scales_up n k fits up)
    ]

-- shifts to the left stay within 32 bits
pub left_shifts_fit : (n : ℕ) (c : Span) → (left_shifts n c).high < 2 ^ 32
left_shifts_fit n c =
    cond_both (scales n c.low && scales n c.high) (record { low = scaled n c.low; high = scaled n c.high }) all (λ (s : Span). s.high < 2 ^ 32)
    (λ fits. scaled_fits n c.high ((and_parts (scales n c.low) (scales n c.high) fits).1)) (λ no_c. omega arith)

-- the row of shifts to the left widens with its side
pub left_shifts_widen : (n : ℕ) (a c : Span) → IsFilled c → IsWider c a → IsWider (left_shifts n c) (left_shifts n a)
left_shifts_widen n a c fc wa =
    cond_both (scales n a.low && scales n a.high) (record { low = scaled n a.low; high = scaled n a.high }) all (λ (s : Span). IsWider (left_shifts n c) s)
    (λ fits.
    let parts = and_parts (scales n a.low) (scales n a.high) fits in
    let low : scales n c.low ≡ true = scales_between n a.low c.low a.high wa.low (omega (arith, wa.high)) parts.0 parts.1 in
    let high : scales n c.high ≡ true = scales_between n a.low c.high a.high (omega (arith, wa.low)) wa.high parts.0 parts.1 in
    rw (cond-true (scales n c.low && scales n c.high) (record { low = scaled n c.low; high = scaled n c.high }) all
    (and_from (scales n c.low) (scales n c.high) low high))
    (record { low = scaled_rises n a.low c.low wa.low; high = scaled_rises n c.high a.high wa.high }))
    (λ no. all_is_wider (left_shifts n c) (cond_both (scales n c.low && scales n c.high) (record { low = scaled n c.low; high = scaled n c.high }) all
    (λ (s : Span). s.high < 2 ^ 32) (λ fits. scaled_fits n c.high ((and_parts (scales n c.low) (scales n c.high) fits).1)) (λ no_c. omega arith)))

-- what n zeros in front leave
front_zeros : (n k : ℕ) → 1 ≤ n → n < 32 → k < 2 ^ 31 → k / 2 ^ n ≤ 2 ^ (32 - n) - 1
front_zeros n k some count small =
    let split : 2 ^ (32 - n) * 2 ^ n ≡ 2 ^ 32 = power_split n count in
    let below : k / 2 ^ n < 2 ^ (32 - n) = (div-lt_iff_lt-mul {k = 2 ^ n} {x = k} {y = 2 ^ (32 - n)} (pow_pos n)).1 (omega arith) in
    omega arith

zeros_fit : (n : ℕ) → 1 ≤ n → 2 ^ (32 - n) ≤ 2 ^ 31
zeros_fit n some = let fewer : 32 - n ≤ 31 = omega arith in pow-le-pow_right {n = 2} (omega arith) {i = 32 - n} {j = 31} fewer

-- shifts to the right stay within 32 bits
pub right_shifts_fit : (n : ℕ) (c : Span) → c.high < 2 ^ 32 → (right_shifts n c).high < 2 ^ 32
right_shifts_fit n c fc =
    cond_both (nat_le (2 ^ 31) c.low) (record { low = 2 ^ 31 + (c.low - 2 ^ 31) / 2 ^ n; high = 2 ^ 31 + (c.high - 2 ^ 31) / 2 ^ n })
    (cond (nat_eq n 0) all (record { low = 2 ^ 31; high = 2 ^ 31 + 2 ^ (32 - n) - 1 })) (λ (s : Span). s.high < 2 ^ 32)
    (λ up. omega (arith, div-le_self (c.high - 2 ^ 31) (2 ^ n)))
    (λ down.
    cond_both (nat_eq n 0) all (record { low = 2 ^ 31; high = 2 ^ 31 + 2 ^ (32 - n) - 1 }) (λ (s : Span). s.high < 2 ^ 32)
    (λ none. omega arith)
    (λ some. omega (arith, zeros_fit n (positive_from n (eqb-false n 0 some)))))

-- the row of shifts to the right widens with its side
pub right_shifts_widen : (n : ℕ) (a c : Span) → n < 32 → IsFilled c → c.high < 2 ^ 32 → IsWider c a → IsWider (right_shifts n c) (right_shifts n a)
right_shifts_widen n a c count filled fc wa =
    cond_both (nat_le (2 ^ 31) a.low) (record { low = 2 ^ 31 + (a.low - 2 ^ 31) / 2 ^ n; high = 2 ^ 31 + (a.high - 2 ^ 31) / 2 ^ n })
    (cond (nat_eq n 0) all (record { low = 2 ^ 31; high = 2 ^ 31 + 2 ^ (32 - n) - 1 })) (λ (s : Span). IsWider (right_shifts n c) s)
    (λ up.
    let low : 2 ^ 31 ≤ a.low = leb-true (2 ^ 31) a.low up in
    let lower : (a.low - 2 ^ 31) / 2 ^ n ≤ (c.low - 2 ^ 31) / 2 ^ n = div_rises (a.low - 2 ^ 31) (c.low - 2 ^ 31) (2 ^ n) (pow_pos n) (omega (arith, wa.low)) in
    let upper : (c.high - 2 ^ 31) / 2 ^ n ≤ (a.high - 2 ^ 31) / 2 ^ n = div_rises (c.high - 2 ^ 31) (a.high - 2 ^ 31) (2 ^ n) (pow_pos n)
    (omega (arith, wa.high)) in
    rw (cond-true (nat_le (2 ^ 31) c.low) (record { low = 2 ^ 31 + (c.low - 2 ^ 31) / 2 ^ n; high = 2 ^ 31 + (c.high - 2 ^ 31) / 2 ^ n })
    (cond (nat_eq n 0) all (record { low = 2 ^ 31; high = 2 ^ 31 + 2 ^ (32 - n) - 1 })) (le-leb (2 ^ 31) c.low (omega (arith, wa.low))))
    (record { low = omega arith; high = omega arith }))
    (λ down.
    cond_both (nat_eq n 0) all (record { low = 2 ^ 31; high = 2 ^ 31 + 2 ^ (32 - n) - 1 }) (λ (s : Span). IsWider (right_shifts n c) s)
    (λ none. all_is_wider (right_shifts n c) (right_shifts_fit n c fc))
    (λ some.
    let positive : 1 ≤ n = positive_from n (eqb-false n 0 some) in
    cond_both (nat_le (2 ^ 31) c.low) (record { low = 2 ^ 31 + (c.low - 2 ^ 31) / 2 ^ n; high = 2 ^ 31 + (c.high - 2 ^ 31) / 2 ^ n })
    (cond (nat_eq n 0) all (record { low = 2 ^ 31; high = 2 ^ 31 + 2 ^ (32 - n) - 1 }))
    (λ (s : Span). IsWider s (record { low = 2 ^ 31; high = 2 ^ 31 + 2 ^ (32 - n) - 1 }))
    (λ up_c. record { low = omega arith; high = omega (arith, front_zeros n (c.high - 2 ^ 31) positive count (omega arith), pow_pos (32 - n)) })
    (λ down_c. rw (cond-false (nat_eq n 0) all (record { low = 2 ^ 31; high = 2 ^ 31 + 2 ^ (32 - n) - 1 }) some)
    (record { low = omega arith; high = omega arith }))))

-- the row of shifts with sign widens with its side
pub signed_shifts_widen : (n : ℕ) (a c : Span) → IsWider c a → IsWider (signed_shifts n c) (signed_shifts n a)
signed_shifts_widen n a c wa =
    let lower : a.low / 2 ^ n ≤ c.low / 2 ^ n = div_rises a.low c.low (2 ^ n) (pow_pos n) wa.low in
    let upper : c.high / 2 ^ n ≤ a.high / 2 ^ n = div_rises c.high a.high (2 ^ n) (pow_pos n) wa.high in
    record { low = omega arith; high = omega arith }

-- shifts with sign stay within 32 bits
pub signed_shifts_fit : (n : ℕ) (c : Span) → n < 32 → c.high < 2 ^ 32 → (signed_shifts n c).high < 2 ^ 32
signed_shifts_fit n c count fc = omega (arith, half_more n c.high count fc)
