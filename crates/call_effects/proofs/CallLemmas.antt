-- What a call may write: the caller's cells that are cells of the callee's mask.
use Rattle.std.proofs.Common.{◌≡◌, ◌≢◌, ℕ, zero, suc, ◌+◌, ◌-◌, ◌*◌, ◌/◌, ◌%◌, ◌^◌, ◌<◌, ◌≤◌, ◌⊎◌, inl, inr, Bool, true, false, Option, Some, None}
use Rattle.std.proofs.Common.{refl, sym, ap, subst, ◌∙◌, arith}
use Rattle.std.specs.Prelude.{◌==◌, nat_lt, if◌then◌else◌}
use Rattle.std.specs.Int.{bit_at}
use Rattle.std.proofs.lemmas.Bool.{cases_lt}
use Rattle.std.proofs.lemmas.Bool.Decides.{nat_tests}
use Rattle.std.proofs.lemmas.Nat.{shr-shr, shr_split, mod_below}
use Rattle.std.proofs.lemmas.Nat.Bits.{bit_at_above, bit_at_cat_low, bit_at_cat_high}
use Rattle.call_effects.proofs.CellLemmas.{positive, stands, Stands, Same, Below, Shared}
use Rattle.call_effects.proofs.MaskLemmas.{bit_of, has_by, within_has, within_by, mask_none, mask-with, mask-union}
use Rattle.call_effects.specs.Cell.{cell_of}
use Rattle.call_effects.specs.Mask.{IsMask, has_cell, is_within, caller_cell, StandsIn, after_call, CallsWriteWhatStands, LargerMasksWriteMore, MasksStayMasks}

-- the low bits of a number are the number's
low_bit : (n w i : ℕ) → i < w → bit_at (n % 2 ^ w) i ≡ bit_at n i
low_bit n w i below =
    sym (bit_at_cat_low (n / 2 ^ w) w (n % 2 ^ w) i below) ∙ ap (λ (x : ℕ). bit_at x i) (shr_split n w)

-- the bits of a shifted number
shifted_bit : (n j i : ℕ) → bit_at (n / 2 ^ j) i ≡ bit_at n (j + i)
shifted_bit n j i = ap (λ (x : ℕ). x % 2) (shr-shr n j i)

field_bit : (n j w i : ℕ) → i < w → bit_at (n / 2 ^ j % 2 ^ w) i ≡ bit_at n (j + i)
field_bit n j w i below = low_bit (n / 2 ^ j) w i below ∙ shifted_bit n j i

module _ (m : ℕ) where
  globals : ℕ
  globals = m % 2 ^ 8

  ins : ℕ
  ins = m / 2 ^ 24 % 2 ^ 8

  others : ℕ
  others = m / 2 ^ 8 % 2 ^ 16

  moved : ℕ
  moved = m % 2 ^ 8 + (m / 2 ^ 24 % 2 ^ 8) * 2 ^ 8 + (m / 2 ^ 8 % 2 ^ 16) * 2 ^ 32

  split : moved ≡ (others * 2 ^ 24 + ins) * 2 ^ 8 + globals
  unfolding globals ins others moved
  split = omega arith

  parts : (globals < 2 ^ 8) × (ins < 2 ^ 8) × (others < 2 ^ 16)
  unfolding globals ins others
  parts = (omega arith, omega arith, omega arith)

  bit_moved : (k : ℕ) → bit_at moved k ≡ bit_at ((others * 2 ^ 24 + ins) * 2 ^ 8 + globals) k
  bit_moved k = ap (λ (x : ℕ). bit_at x k) split

  at_globals : (k : ℕ) → k < 8 → bit_at moved k ≡ bit_at m k
  unfolding globals
  at_globals k low = bit_moved k ∙ bit_at_cat_low (others * 2 ^ 24 + ins) 8 globals k low ∙ low_bit m 8 k low

  above : (k : ℕ) → 8 ≤ k → bit_at moved k ≡ bit_at (others * 2 ^ 24 + ins) (k - 8)
  above k high = bit_moved k ∙ bit_at_cat_high (others * 2 ^ 24 + ins) 8 globals k parts.0 high

  at_outs : (k : ℕ) → 8 ≤ k → k < 16 → bit_at moved k ≡ bit_at m (k + 16)
  unfolding ins
  at_outs k high low =
      let j : k - 8 < 8 = omega arith in
      let i : k - 8 < 24 = omega arith in
      let sum : 24 + (k - 8) ≡ k + 16 = omega arith in
      above k high ∙ bit_at_cat_low others 24 ins (k - 8) i ∙ field_bit m 24 8 (k - 8) j ∙ ap (λ (x : ℕ). bit_at m x) sum

  at_rest : (k : ℕ) → 16 ≤ k → k < 32 → bit_at moved k ≡ 0
  at_rest k high low =
      let i : k - 8 < 24 = omega arith in
      let a : 8 ≤ k = omega arith in
      let b : 8 ≤ k - 8 = omega arith in
      above k a ∙ bit_at_cat_low others 24 ins (k - 8) i ∙ bit_at_above ins 8 (k - 8) parts.1 b

  far : (k : ℕ) → 32 ≤ k → bit_at moved k ≡ bit_at others (k - 32)
  far k high =
      let i : 24 ≤ k - 8 = omega arith in
      let a : 8 ≤ k = omega arith in
      let small : ins < 2 ^ 24 = (let p = parts.1 in omega arith) in
      let d : k - 8 - 24 ≡ k - 32 = omega arith in
      above k a ∙ bit_at_cat_high others 24 ins (k - 8) small i ∙ ap (λ (x : ℕ). bit_at others x) d

  at_below : (k : ℕ) → 32 ≤ k → k < 48 → bit_at moved k ≡ bit_at m (k - 24)
  unfolding others
  at_below k high low =
      let j : k - 32 < 16 = omega arith in
      let sum : 8 + (k - 32) ≡ k - 24 = omega arith in
      far k high ∙ field_bit m 8 16 (k - 32) j ∙ ap (λ (x : ℕ). bit_at m x) sum

  at_none : (k : ℕ) → 48 ≤ k → bit_at moved k ≡ 0
  at_none k high =
      let a : 32 ≤ k = omega arith in
      let b : 16 ≤ k - 32 = omega arith in
      far k a ∙ bit_at_above others 16 (k - 32) parts.2 b

low_cell : (depth c : ℕ) → c < 32 → caller_cell depth c ≡ Some (cell_of depth c)
low_cell depth c low = let t : nat_lt c 32 ≡ true = grind (arith, nat_tests) in rw t refl

stands_at : (m depth k c : ℕ) → c < 32 → cell_of depth c ≡ k → bit_at m c ≡ 1 → StandsIn m depth k
stands_at m depth k c low is one = record { cell = c; has = has_by m c one; is = low_cell depth c low ∙ ap (λ (x : ℕ). Some x) is }

cell_low : (d c : ℕ) → c < 8 → cell_of (suc d) c ≡ c
cell_low d c low = let t : nat_lt c 8 ≡ true = grind (arith, nat_tests) in rw (positive d, t) refl

cell_mid : (d c : ℕ) → 8 ≤ c → c < 24 → cell_of (suc d) c ≡ c + 24
cell_mid d c high low =
    let t : nat_lt c 8 ≡ false = grind (arith, nat_tests) in let u : nat_lt c 24 ≡ true = grind (arith, nat_tests) in rw (positive d, t, u) refl

cell_top : (d c : ℕ) → 24 ≤ c → cell_of (suc d) c ≡ c - 16
cell_top d c high =
    let t : nat_lt c 8 ≡ false = grind (arith, nat_tests) in let u : nat_lt c 24 ≡ false = grind (arith, nat_tests) in rw (positive d, t, u) refl

-- what may be written stands for a cell of the mask
from_moved : (m d k : ℕ) → bit_at (moved m) k ≡ 1 → StandsIn m (suc d) k
from_moved m d k one =
    elim (cases_lt k 8) [
      | inl a ↦ stands_at m (suc d) k k (omega arith) (cell_low d k a) (sym (at_globals m k a) ∙ one)
      | inr b ↦
          elim (cases_lt k 16) [
            | inl c ↦
                (let top : 24 ≤ k + 16 = omega arith in
                stands_at m (suc d) k (k + 16) (omega arith) (cell_top d (k + 16) top ∙ omega arith) (sym (at_outs m k b c) ∙ one))
            | inr e ↦
                elim (cases_lt k 32) [
                  | inl f ↦ absurd (let none = at_rest m k e f in omega arith)
                  | inr g ↦
                      elim (cases_lt k 48) [
                        | inl h ↦
                            (let low : 8 ≤ k - 24 = omega arith in
                            let mid : k - 24 < 24 = omega arith in
                            stands_at m (suc d) k (k - 24) (omega arith) (cell_mid d (k - 24) low mid ∙ omega arith) (sym (at_below m k g h) ∙ one))
                        | inr i ↦ absurd (let none = at_none m k i in omega arith)
                      ]
                ]
          ]
    ]

after-deep : (m d : ℕ) → after_call m (suc d) ≡ moved m
unfolding moved
after-deep m d = rw (positive d) refl

some_apart : {A : Type 0} (k : A) → None ≡ Some k → ⊥
some_apart k e = cc

-- what stands for a cell of the mask may be written
to_moved : (m d c k : ℕ) → c < 32 → cell_of (suc d) c ≡ k → bit_at m c ≡ 1 → bit_at (moved m) k ≡ 1
to_moved m d c k low is one =
    elim (stands (suc d) c) [
      | Same e (inl z) ↦ absurd (omega arith)
      | Same e (inr l) ↦ (let s : c ≡ k = sym e ∙ is in let j : k < 8 = omega arith in at_globals m k j ∙ ap (λ (x : ℕ). bit_at m x) (sym s) ∙ one)
      | Below e a b ↦
          (let s : k ≡ c + 24 = sym is ∙ e in
          let f : 32 ≤ k = omega arith in
          let g : k < 48 = omega arith in
          let t : k - 24 ≡ c = omega arith in
          at_below m k f g ∙ ap (λ (x : ℕ). bit_at m x) t ∙ one)
      | Shared e a ↦
          (let s : k ≡ c - 16 = sym is ∙ e in
          let f : 8 ≤ k = omega arith in
          let g : k < 16 = omega arith in
          let t : k + 16 ≡ c = omega arith in
          at_outs m k f g ∙ ap (λ (x : ℕ). bit_at m x) t ∙ one)
    ]

stands_moved : (m d k : ℕ) → StandsIn m (suc d) k → bit_at (moved m) k ≡ 1
stands_moved m d k here =
    let c = here.cell in
    elim (cases_lt here.cell 32) [
      | inl low ↦ to_moved m d here.cell k low (inside (sym (low_cell (suc d) here.cell low) ∙ here.is)) (bit_of m here.cell here.has)
      | inr high ↦ absurd (some_apart k (sym (no_cell here.cell high) ∙ here.is))
    ]
  where
    inside : {a b : ℕ} → Some a ≡ Some b → a ≡ b
    inside e = cc

    no_cell : (c : ℕ) → 32 ≤ c → caller_cell (suc d) c ≡ None
    no_cell c high = let t : nat_lt c 32 ≡ false = grind (arith, nat_tests) in rw (t, positive d) refl

same_cell : (c : ℕ) → caller_cell 0 c ≡ Some c
same_cell c =
    elim (cases_lt c 32) [
      | inl low ↦ low_cell 0 c low
      | inr high ↦ (let t : nat_lt c 32 ≡ false = grind (arith, nat_tests) in rw t refl)
    ]

-- a caller's cell may be written exactly where it stands for a cell that the callee may write
pub calls_write_what_stands : CallsWriteWhatStands
calls_write_what_stands m zero k = (
  λ has. record { cell = k; has = has; is = same_cell k },
  λ here. (let e : here.cell ≡ k = inside (sym (same_cell here.cell) ∙ here.is) in subst (λ (c : ℕ). has_cell m c ≡ true) e here.has),
)
  where
    inside : {a b : ℕ} → Some a ≡ Some b → a ≡ b
    inside e = cc
calls_write_what_stands m (suc d) k = (
  λ has. from_moved m d k (bit_of (moved m) k (subst (λ (x : ℕ). has_cell x k ≡ true) (after-deep m d) has)),
  λ here. subst (λ (x : ℕ). has_cell x k ≡ true) (sym (after-deep m d)) (has_by (moved m) k (stands_moved m d k here)),
)

-- a callee that may write more may write more of its caller
pub larger_masks_write_more : LargerMasksWriteMore
larger_masks_write_more a b depth within =
    within_by (after_call a depth) (after_call b depth)
    (λ k has.
    let here = (calls_write_what_stands a depth k).0 has in
    (calls_write_what_stands b depth k).1 (record { cell = here.cell; has = within_has a b within here.cell here.has; is = here.is }))

mask-moved : (mask : ℕ) → IsMask mask → IsMask (moved mask)
unfolding moved
mask-moved mask is = record { below = omega arith; even = (let e = is.even in omega arith) }

-- what is made of masks is one
pub masks_stay_masks : MasksStayMasks
masks_stay_masks = record { none = mask_none; with_one = mask-with; union = mask-union; after_call = after } where
  after : (mask depth : ℕ) → IsMask mask → IsMask (after_call mask depth)
  after mask zero is = is
  after mask (suc d) is = subst IsMask (sym (after-deep mask d)) (mask-moved mask is)
