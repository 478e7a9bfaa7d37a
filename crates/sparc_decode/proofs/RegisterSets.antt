-- The set of a list of registers has exactly these, without r0.
use Rattle.std.proofs.Common.{◌≡◌, ℕ, zero, suc, ◌*◌, ◌^◌, ◌<◌, max, inl, inr, ◌&&◌, Bool, true, false, List, [], ◌∷◌, length, refl, sym, ap, subst}
use Rattle.std.proofs.Common.{◌∙◌, arith, cond, ltb, Contains, get_or, IsBitSet}
use Rattle.std.specs.Int.{bit_at}
use Rattle.std.specs.Int.Bits.{or_zero_r}
use Rattle.std.proofs.lemmas.Bool.{ltb-true, lt-ltb, and_parts, and_from, cases_eq}
use Rattle.std.proofs.lemmas.Nat.{pow_pos, pow_below, or_of_32}
use Rattle.std.proofs.lemmas.Nat.Bits.{bit_at-zero, bit_at_or, bit_at-pow_same, bit_at-pow_other, bit_at-lt, and_pow}
use Rattle.sparc_decode.specs.Register.{bit_of, mask_of, HasExactly}

-- a set of one register is the set of the list of it
pub ruleset sets = or_zero_r

-- a bit is set where it is 1
set_from_bit : (n k : ℕ) → bit_at n k ≡ 1 → IsBitSet n k
set_from_bit n k one e =
    let is : 1 * 2 ^ k ≡ 0 = sym (ap (λ (b : ℕ). b * 2 ^ k) one) ∙ sym (and_pow n k) ∙ e in
    absurd (omega (arith, pow_pos k))

bit_from_set : (n k : ℕ) → IsBitSet n k → bit_at n k ≡ 1
bit_from_set n k set =
    elim (cases_eq (bit_at n k) 0) [
      | inl none ↦ absurd (set (and_pow n k ∙ ap (λ (b : ℕ). b * 2 ^ k) none ∙ (omega arith)))
      | inr some ↦ (let below = bit_at-lt n k in omega arith)
    ]

-- the set of one register has a bit only where that register is
bit_of_one : (r k : ℕ) → bit_at (bit_of r) k ≡ 1 → (r ≡ k) × (0 < r) × (r < 32)
bit_of_one r k = cases (ltb 0 r && ltb r 32) refl where
  cases : (b : Bool) → (ltb 0 r && ltb r 32) ≡ b → bit_at (cond b (2 ^ r) 0) k ≡ 1 → (r ≡ k) × (0 < r) × (r < 32)
  cases true inside one =
      let parts = and_parts (ltb 0 r) (ltb r 32) inside in
      elim (cases_eq k r) [
        | inl same ↦ (sym same, ltb-true 0 r parts.0, ltb-true r 32 parts.1)
        | inr other ↦ absurd (let none = sym (bit_at-pow_other r k other) ∙ one in cc)
      ]
  cases false outside one = absurd (let none = sym (bit_at-zero k) ∙ one in cc)

one_bit_of : (r : ℕ) → 0 < r → r < 32 → bit_at (bit_of r) r ≡ 1
one_bit_of r above below = rw (and_from (ltb 0 r) (ltb r 32) (lt-ltb 0 r above) (lt-ltb r 32 below)) (bit_at-pow_same r)

-- what is in the set is in the list
only_listed : (rs : List ℕ) (k : ℕ) → bit_at (mask_of rs) k ≡ 1 → (0 < k) × (k < 32) × Contains rs k
only_listed [] k one = absurd (let none = sym (bit_at-zero k) ∙ one in cc)
only_listed (r ∷ rs) k one =
    let most : max (bit_at (bit_of r) k) (bit_at (mask_of rs) k) ≡ 1 = sym (bit_at_or (bit_of r) (mask_of rs) k) ∙ one in
    elim (cases_eq (bit_at (bit_of r) k) 1) [
      | inl here ↦ (let is = bit_of_one r k here in (omega arith, omega arith, (0, omega arith, is.0)))
      | inr later ↦
          let rest = only_listed rs k (omega arith) in
          let at = rest.2 in
          (rest.0, rest.1, (suc at.0, omega arith, at.2))
    ]

-- what is in the list is in the set
all_listed : (rs : List ℕ) (k i : ℕ) → 0 < k → k < 32 → i < length rs → get_or rs i k ≡ k → bit_at (mask_of rs) k ≡ 1
all_listed [] k i above below within is = absurd (omega arith)
all_listed (r ∷ rs) k zero above below within is =
    let here : bit_at (bit_of r) k ≡ 1 = subst (λ (x : ℕ). bit_at (bit_of x) k ≡ 1) (sym is) (one_bit_of k above below) in
    let either = bit_at_or (bit_of r) (mask_of rs) k in
    let most = bit_at-lt (mask_of rs) k in
    omega arith
all_listed (r ∷ rs) k (suc i) above below within is =
    let rest : bit_at (mask_of rs) k ≡ 1 = all_listed rs k i above below (omega arith) is in
    let either = bit_at_or (bit_of r) (mask_of rs) k in
    let most = bit_at-lt (bit_of r) k in
    omega arith

-- the set of a list of registers is a word
pub set_is_word : (rs : List ℕ) → mask_of rs < 2 ^ 32
set_is_word [] = omega arith
set_is_word (r ∷ rs) = or_of_32 (bit_of r) (mask_of rs) (one (ltb 0 r && ltb r 32) refl) (set_is_word rs) where
  one : (b : Bool) → (ltb 0 r && ltb r 32) ≡ b → cond b (2 ^ r) 0 < 2 ^ 32
  one true inside = pow_below r 32 (ltb-true r 32 (and_parts (ltb 0 r) (ltb r 32) inside).1)
  one false outside = omega arith

-- the set of a list of registers has exactly these
pub has_exactly : (rs : List ℕ) → HasExactly (mask_of rs) rs
has_exactly rs k = (
  λ set. only_listed rs k (bit_from_set (mask_of rs) k set),
  λ named. set_from_bit (mask_of rs) k (all_listed rs k named.2.0 named.0 named.1 named.2.1 named.2.2),
)
