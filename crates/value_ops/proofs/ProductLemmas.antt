-- Products of the numbers at places: those between the ends of two spans are between the products of the ends.
use Rattle.std.proofs.Common.{◌≡◌, ℕ, ◌+◌, ◌-◌, ◌*◌, ◌%◌, ◌^◌, ◌<◌, ◌≤◌, ◌&&◌, true, cond, min, max, sym, subst, inl, inr, arith, nat_le, nat_lt}
use Rattle.std.proofs.Math.Nat.{add-mul, mul-add, mul_comm}
use Rattle.std.proofs.lemmas.Bool.{and_parts, and_from, leb-true, ltb-true, le-leb, lt-ltb, cases_lt, cond_both}
use Rattle.std.proofs.lemmas.Nat.{mul-le}
use Rattle.value_lattice.specs.Order.{place_of}
use Rattle.value_ops.specs.Row.{IsFilled, all, product_key, least_product, greatest_product, products}
use Rattle.value_ops.specs.declared.rows.Span.{Span}
use Rattle.value_ops.proofs.RowLemmas.{IsIn, in_all, IsWider, all_is_wider}
use Rattle.word_ops.specs.Word.{product_of}

-- against a number from 0 on, keys rise
key_rises : (j k e : ℕ) → j ≤ k → product_key j (2 ^ 31 + e) ≤ product_key k (2 ^ 31 + e)
unfolding product_key
key_rises j k e up =
    let one : j * (2 ^ 31 + e) ≡ j * 2 ^ 31 + j * e = mul-add j (2 ^ 31) e in
    let other : k * (2 ^ 31 + e) ≡ k * 2 ^ 31 + k * e = mul-add k (2 ^ 31) e in
    let more : j * e ≤ k * e = mul-le j e k e up (omega arith) in
    omega (arith, one, other, more)

-- against a number below 0, keys fall
key_falls : (j k m e : ℕ) → j ≤ k → m + e ≡ 2 ^ 31 → k < 2 ^ 32 → product_key k m ≤ product_key j m
unfolding product_key
key_falls j k m e up whole fits =
    let one : j * (m + e) ≡ j * m + j * e = mul-add j m e in
    let other : k * (m + e) ≡ k * m + k * e = mul-add k m e in
    let one_is : j * 2 ^ 31 ≡ j * m + j * e = subst (λ (n : ℕ). j * n ≡ j * m + j * e) whole one in
    let other_is : k * 2 ^ 31 ≡ k * m + k * e = subst (λ (n : ℕ). k * n ≡ k * m + k * e) whole other in
    let more : j * e ≤ k * e = mul-le j e k e up (omega arith) in
    omega (arith, one_is, other_is, more)

key_is_same : (k m : ℕ) → product_key k m ≡ product_key m k
unfolding product_key
key_is_same k m = omega (arith, mul_comm k m)

-- a key is between two others
record IsAmid (p q x : ℕ) : Type 0 where
  above : min p q ≤ x
  below : x ≤ max p q

-- between two places the keys are between those of the places
along : (j x k m : ℕ) → j ≤ x → x ≤ k → k < 2 ^ 32 → IsAmid (product_key j m) (product_key k m) (product_key x m)
along j x k m up down fits =
    elim (cases_lt m (2 ^ 31)) [
      | inl negative ↦
          let whole : m + (2 ^ 31 - m) ≡ 2 ^ 31 = omega arith in
          let first : product_key x m ≤ product_key j m = key_falls j x m (2 ^ 31 - m) up whole (omega arith) in
          let last : product_key k m ≤ product_key x m = key_falls x k m (2 ^ 31 - m) down whole fits in
          record { above = omega (arith, first, last); below = omega (arith, first, last) }
      | inr other ↦
          let is : 2 ^ 31 + (m - 2 ^ 31) ≡ m = omega arith in
          let first : product_key j m ≤ product_key x m = subst (λ (n : ℕ). product_key j n ≤ product_key x n) is (key_rises j x (m - 2 ^ 31) up) in
          let last : product_key x m ≤ product_key k m = subst (λ (n : ℕ). product_key x n ≤ product_key k n) is (key_rises x k (m - 2 ^ 31) down) in
          record { above = omega (arith, first, last); below = omega (arith, first, last) }
    ]

across : (k j x m : ℕ) → j ≤ x → x ≤ m → m < 2 ^ 32 → IsAmid (product_key k j) (product_key k m) (product_key k x)
across k j x m up down fits =
    let turned : IsAmid (product_key j k) (product_key m k) (product_key x k) = along j x m k up down fits in
    record {
      above = omega (arith, turned.above, key_is_same j k, key_is_same m k, key_is_same x k);
      below = omega
          (arith, turned.below, key_is_same j k, key_is_same m k, key_is_same x k);
    }

four : (p q r s u v x : ℕ) → IsAmid p q u → IsAmid r s v → IsAmid u v x → (min (min p q) (min r s) ≤ x) × (x ≤ max (max p q) (max r s))
four p q r s u v x first second third = (omega (arith, first.above, second.above, third.above), omega (arith, first.below, second.below, third.below))

-- a place is between the ends of a span
record IsPlaced (s : Span) (k : ℕ) : Type 0 where
  above : s.low ≤ k
  below : k ≤ s.high

in_box : (a b : Span) (k m : ℕ) → a.high < 2 ^ 32 → b.high < 2 ^ 32 → IsPlaced a k → IsPlaced b m
    → (least_product a b ≤ product_key k m) × (product_key k m ≤ greatest_product a b)
in_box a b k m fits_a fits_b in_a in_b =
    four (product_key a.low b.low) (product_key a.low b.high) (product_key a.high b.low) (product_key a.high b.high) (product_key a.low m)
    (product_key a.high m) (product_key k m)
    (across a.low b.low m b.high in_b.above in_b.below fits_b) (across a.high b.low m b.high in_b.above in_b.below fits_b)
    (along a.low k a.high m in_a.above in_a.below fits_a)

-- The key of two words' places is that of their product, but for a multiple of 2 ^ 32.
record IsKeyOf (x y key : ℕ) : Type 0 where
  times : ℕ
  is : key + 2 ^ 32 * times ≡ x * y + 2 ^ 62

key_of : (x y : ℕ) → x < 2 ^ 32 → y < 2 ^ 32 → IsKeyOf x y (product_key (place_of x) (place_of y))
unfolding product_key
key_of x y xw yw =
    elim (cases_lt x (2 ^ 31)) [
      | inl x_small ↦
          let k_is : place_of x ≡ x + 2 ^ 31 = omega arith in
          elim (cases_lt y (2 ^ 31)) [
            | inl y_small ↦
                let m_is : place_of y ≡ y + 2 ^ 31 = omega arith in
                let split : (x + 2 ^ 31) * (y + 2 ^ 31) ≡ x * (y + 2 ^ 31) + 2 ^ 31 * (y + 2 ^ 31) = add-mul x (2 ^ 31) (y + 2 ^ 31) in
                let part : x * (y + 2 ^ 31) ≡ x * y + x * 2 ^ 31 = mul-add x y (2 ^ 31) in
                record { times = 0; is = rw (k_is, m_is) (omega (arith, split, part)) }
            | inr y_large ↦
                let y_is : y ≡ place_of y + 2 ^ 31 = omega arith in
                let m : ℕ = place_of y in
                let split : (x + 2 ^ 31) * place_of y ≡ x * place_of y + 2 ^ 31 * place_of y = add-mul x (2 ^ 31) (place_of y) in
                let part : x * (place_of y + 2 ^ 31) ≡ x * place_of y + x * 2 ^ 31 = mul-add x (place_of y) (2 ^ 31) in
                let whole : x * y ≡ x * place_of y + x * 2 ^ 31 = subst (λ (n : ℕ). x * n ≡ x * place_of y + x * 2 ^ 31) (sym y_is) part in
                record { times = x; is = rw k_is (omega (arith, split, whole)) }
          ]
      | inr x_large ↦
          let x_is : x ≡ place_of x + 2 ^ 31 = omega arith in
          elim (cases_lt y (2 ^ 31)) [
            | inl y_small ↦
                let m_is : place_of y ≡ y + 2 ^ 31 = omega arith in
                let split : place_of x * (y + 2 ^ 31) ≡ place_of x * y + place_of x * 2 ^ 31 = mul-add (place_of x) y (2 ^ 31) in
                let part : (place_of x + 2 ^ 31) * y ≡ place_of x * y + 2 ^ 31 * y = add-mul (place_of x) (2 ^ 31) y in
                let whole : x * y ≡ place_of x * y + 2 ^ 31 * y = subst (λ (n : ℕ). n * y ≡ place_of x * y + 2 ^ 31 * y) (sym x_is) part in
                record { times = y; is = rw m_is (omega (arith, split, whole)) }
            | inr y_large ↦
                let y_is : y ≡ place_of y + 2 ^ 31 = omega arith in
                let k : ℕ = place_of x in
                let split : (place_of x + 2 ^ 31) * (place_of y + 2 ^ 31) ≡ place_of x * (place_of y + 2 ^ 31) + 2 ^ 31 * (place_of y + 2 ^ 31) = add-mul
                (place_of x) (2 ^ 31) (place_of y + 2 ^ 31) in
                let part : place_of x * (place_of y + 2 ^ 31) ≡ place_of x * place_of y + place_of x * 2 ^ 31 = mul-add (place_of x) (place_of y) (2 ^ 31) in
                let whole : x * y ≡ place_of x * (place_of y + 2 ^ 31) + 2 ^ 31 * (place_of y + 2 ^ 31) =
                subst (λ (n : ℕ). n * y ≡ place_of x * (place_of y + 2 ^ 31) + 2 ^ 31 * (place_of y + 2 ^ 31)) (sym x_is)
                (subst (λ (n : ℕ). (place_of x + 2 ^ 31) * n ≡ place_of x * (place_of y + 2 ^ 31) + 2 ^ 31 * (place_of y + 2 ^ 31)) (sym y_is) split) in
                record { times = place_of x + place_of y; is = omega (arith, part, whole) }
          ]
    ]

product_place : (q key times : ℕ) → key + 2 ^ 32 * times ≡ q + 2 ^ 62 → 2 ^ 62 - 2 ^ 31 ≤ key → key < 2 ^ 62 + 2 ^ 31
    → place_of (q % 2 ^ 32) + (2 ^ 62 - 2 ^ 31) ≡ key
product_place q key times is low high = omega arith

-- a product of words is in the row of products
pub in_products : (a b : Span) (x y : ℕ) → a.high < 2 ^ 32 → b.high < 2 ^ 32 → x < 2 ^ 32 → y < 2 ^ 32 → IsIn a x → IsIn b y
    → IsIn (products a b) (product_of x y)
in_products a b x y fits_a fits_b xw yw in_a in_b =
    cond_both (nat_le (2 ^ 62 - 2 ^ 31) (least_product a b) && nat_lt (greatest_product a b) (2 ^ 62 + 2 ^ 31))
    (record { low = least_product a b - (2 ^ 62 - 2 ^ 31); high = greatest_product a b - (2 ^ 62 - 2 ^ 31) }) all (λ (s : Span). IsIn s (product_of x y))
    (λ fits.
    let parts = and_parts (nat_le (2 ^ 62 - 2 ^ 31) (least_product a b)) (nat_lt (greatest_product a b) (2 ^ 62 + 2 ^ 31)) fits in
    amid (least_product a b) (greatest_product a b) (product_key (place_of x) (place_of y)) (x * y) (leb-true (2 ^ 62 - 2 ^ 31) (least_product a b) parts.0)
    (ltb-true (greatest_product a b) (2 ^ 62 + 2 ^ 31) parts.1)
    (in_box a b (place_of x) (place_of y) fits_a fits_b (record { above = in_a.above; below = in_a.below })
    (record { above = in_b.above; below = in_b.below })) (key_of x y xw yw).times (key_of x y xw yw).is)
    (λ no. in_all (product_of x y)) where
      amid : (least greatest key q : ℕ) → 2 ^ 62 - 2 ^ 31 ≤ least → greatest < 2 ^ 62 + 2 ^ 31 → (least ≤ key) × (key ≤ greatest) → (times : ℕ)
          → key + 2 ^ 32 * times ≡ q + 2 ^ 62 → IsIn (record { low = least - (2 ^ 62 - 2 ^ 31); high = greatest - (2 ^ 62 - 2 ^ 31) }) (q % 2 ^ 32)
      amid least greatest key q low high between times is =
          let at : place_of (q % 2 ^ 32) + (2 ^ 62 - 2 ^ 31) ≡ key = product_place q key times is (omega (arith, low, between)) (omega (arith, high, between))
          in
          record { above = omega (arith, at, between); below = omega (arith, at, between, low) }

products_fit : (c d : Span) → (products c d).high < 2 ^ 32
products_fit c d =
    cond_both (nat_le (2 ^ 62 - 2 ^ 31) (least_product c d) && nat_lt (greatest_product c d) (2 ^ 62 + 2 ^ 31))
    (record { low = least_product c d - (2 ^ 62 - 2 ^ 31); high = greatest_product c d - (2 ^ 62 - 2 ^ 31) }) all (λ (s : Span). s.high < 2 ^ 32)
    (λ fits. small (greatest_product c d) (ltb-true (greatest_product c d) (2 ^ 62 + 2 ^ 31)
    (and_parts (nat_le (2 ^ 62 - 2 ^ 31) (least_product c d)) (nat_lt (greatest_product c d) (2 ^ 62 + 2 ^ 31)) fits).1))
    (λ no. omega arith) where
      small : (key : ℕ) → key < 2 ^ 62 + 2 ^ 31 → key - (2 ^ 62 - 2 ^ 31) < 2 ^ 32
      small key fits = omega arith

corners : (p q r s low high : ℕ) → (low ≤ p) × (p ≤ high) → (low ≤ q) × (q ≤ high) → (low ≤ r) × (r ≤ high) → (low ≤ s) × (s ≤ high)
    → (low ≤ min (min p q) (min r s)) × (max (max p q) (max r s) ≤ high)
corners p q r s low high first second third last = (omega (arith, first, second, third, last), omega (arith, first, second, third, last))

-- the products of the ends of narrower spans are between those of wider ones
in_wider : (a b c d : Span) → a.high < 2 ^ 32 → b.high < 2 ^ 32 → IsFilled c → IsFilled d → IsWider c a → IsWider d b
    → (least_product a b ≤ least_product c d) × (greatest_product c d ≤ greatest_product a b)
in_wider a b c d fits_a fits_b filled_c filled_d wider_c wider_d =
    let low_c : IsPlaced a c.low = record { above = wider_c.low; below = omega (arith, wider_c.high, filled_c) } in
    let high_c : IsPlaced a c.high = record { above = omega (arith, wider_c.low, filled_c); below = wider_c.high } in
    let low_d : IsPlaced b d.low = record { above = wider_d.low; below = omega (arith, wider_d.high, filled_d) } in
    let high_d : IsPlaced b d.high = record { above = omega (arith, wider_d.low, filled_d); below = wider_d.high } in
    corners (product_key c.low d.low) (product_key c.low d.high) (product_key c.high d.low) (product_key c.high d.high) (least_product a b)
    (greatest_product a b)
    (in_box a b c.low d.low fits_a fits_b low_c low_d) (in_box a b c.low d.high fits_a fits_b low_c high_d)
    (in_box a b c.high d.low fits_a fits_b high_c low_d) (in_box a b c.high d.high fits_a fits_b high_c high_d)

-- the row of products widens with its sides
pub products_widen : (a b c d : Span) → a.high < 2 ^ 32 → b.high < 2 ^ 32 → IsFilled c → IsFilled d → IsWider c a → IsWider d b
    → IsWider (products c d) (products a b)
products_widen a b c d fits_a fits_b filled_c filled_d wider_c wider_d =
    let inside = in_wider a b c d fits_a fits_b filled_c filled_d wider_c wider_d in
    cond_both (nat_le (2 ^ 62 - 2 ^ 31) (least_product a b) && nat_lt (greatest_product a b) (2 ^ 62 + 2 ^ 31))
    (record { low = least_product a b - (2 ^ 62 - 2 ^ 31); high = greatest_product a b - (2 ^ 62 - 2 ^ 31) }) all (λ (s : Span). IsWider (products c d) s)
    (λ fits.
    let parts = and_parts (nat_le (2 ^ 62 - 2 ^ 31) (least_product a b)) (nat_lt (greatest_product a b) (2 ^ 62 + 2 ^ 31)) fits in
    narrow (least_product a b) (greatest_product a b) (least_product c d) (greatest_product c d) (leb-true (2 ^ 62 - 2 ^ 31) (least_product a b) parts.0)
    (ltb-true (greatest_product a b) (2 ^ 62 + 2 ^ 31) parts.1) inside)
    (λ no. all_is_wider (products c d) (products_fit c d)) where
      narrow : (least greatest low high : ℕ) → 2 ^ 62 - 2 ^ 31 ≤ least → greatest < 2 ^ 62 + 2 ^ 31 → (least ≤ low) × (high ≤ greatest)
          → IsWider (cond (nat_le (2 ^ 62 - 2 ^ 31) low && nat_lt high (2 ^ 62 + 2 ^ 31))
          (record { low = low - (2 ^ 62 - 2 ^ 31); high = high - (2 ^ 62 - 2 ^ 31) }) all)
          (record { low = least - (2 ^ 62 - 2 ^ 31); high = greatest - (2 ^ 62 - 2 ^ 31) })
      narrow least greatest low high down up inside =
          let test : (nat_le (2 ^ 62 - 2 ^ 31) low && nat_lt high (2 ^ 62 + 2 ^ 31)) ≡ true = and_from (nat_le (2 ^ 62 - 2 ^ 31) low)
          (nat_lt high (2 ^ 62 + 2 ^ 31)) (le-leb (2 ^ 62 - 2 ^ 31) low (omega (arith, down, inside)))
          (lt-ltb high (2 ^ 62 + 2 ^ 31) (omega (arith, up, inside))) in
          rw test (record { low = omega (arith, inside); high = omega (arith, inside) })

-- what is taken off a key is no more than there is
pub key_is_some : (k m : ℕ) → k < 2 ^ 32 → m < 2 ^ 32 → 2 ^ 31 * (k + m) ≤ k * m + 2 ^ 63
key_is_some k m fits_k fits_m =
    elim (cases_lt m (2 ^ 31)) [
      | inl negative ↦
          let whole : m + (2 ^ 31 - m) ≡ 2 ^ 31 = omega arith in
          let split : k * (m + (2 ^ 31 - m)) ≡ k * m + k * (2 ^ 31 - m) = mul-add k m (2 ^ 31 - m) in
          let is : k * 2 ^ 31 ≡ k * m + k * (2 ^ 31 - m) = subst (λ (n : ℕ). k * n ≡ k * m + k * (2 ^ 31 - m)) whole split in
          let few : k * (2 ^ 31 - m) ≤ 2 ^ 32 * (2 ^ 31 - m) = mul-le k (2 ^ 31 - m) (2 ^ 32) (2 ^ 31 - m) (omega arith) (omega arith) in
          omega (arith, is, few)
      | inr other ↦
          let whole : 2 ^ 31 + (m - 2 ^ 31) ≡ m = omega arith in
          let split : k * (2 ^ 31 + (m - 2 ^ 31)) ≡ k * 2 ^ 31 + k * (m - 2 ^ 31) = mul-add k (2 ^ 31) (m - 2 ^ 31) in
          let is : k * m ≡ k * 2 ^ 31 + k * (m - 2 ^ 31) = subst (λ (n : ℕ). k * n ≡ k * 2 ^ 31 + k * (m - 2 ^ 31)) whole split in
          omega (arith, is)
    ]
