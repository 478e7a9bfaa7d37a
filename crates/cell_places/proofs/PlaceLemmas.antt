-- Where the cells of a frame stand among the registers, and what is read and written there.
use Rattle.std.proofs.Common.{◌≡◌, ◌≢◌, ℕ, zero, suc, ◌+◌, ◌-◌, ◌*◌, ◌%◌, ◌^◌, ◌<◌, ◌≤◌, inl, inr, ◌&&◌, Bool, true, false, length, refl, sym, ap}
use Rattle.std.proofs.Common.{subst, ◌∙◌, arith, cond, eqb}
use Rattle.std.specs.Prelude.{◌==◌, nat_lt, slice_index, slice_set}
use Rattle.std.proofs.lemmas.Bool.{cases_lt}
use Rattle.std.proofs.lemmas.Bool.Decides.{nat_tests, eqb_tells}
use Rattle.std.proofs.lemmas.List.{get_or-set_same, get_or-set_other}
use Rattle.call_effects.proofs.CellLemmas.{Same, Below, Shared, stands, cells_tell_registers_apart}
use Rattle.call_effects.specs.Cell.{cell_of}
use Rattle.cell_places.specs.Place.{window_at, place_of, content_of, with_content, IsAtDepth, RegistersAreCells, CellsAreApart, RegistersHoldContents}
use Rattle.sparc_machine.specs.Machine.{IsMachine, register_of, with_register}
use Rattle.sparc_machine.specs.Register.{physical_of}
use Rattle.sparc_machine.specs.declared.machine.Machine.{Machine}
use Rattle.sparc_runs.proofs.Bounds.{below_everywhere}

-- globals stand at their numbers, and the other registers in the ring
pub physical_low : (cwp r : ℕ) → r < 8 → physical_of cwp r ≡ r
physical_low cwp r low = let t : nat_lt r 8 ≡ true = grind (arith, nat_tests) in rw t refl

-- the place of a register that is no global
pub physical_high : (cwp r : ℕ) → 8 ≤ r → physical_of cwp r ≡ 8 + (16 * cwp + r - 8) % 128
physical_high cwp r high = let t : nat_lt r 8 ≡ false = grind (arith, nat_tests) in rw t refl

-- where a cell stands: at its own number, or in the ring, where heights are counted from the window below the frame's
pub data Lies (cwp c : ℕ) : Type 0 where
  Global : c < 8 → place_of cwp c ≡ c → Lies cwp c
  Near : 8 ≤ c → c < 32 → place_of cwp c ≡ 8 + (16 * cwp + 112 + (c + 8)) % 128 → Lies cwp c
  Deep : 32 ≤ c → place_of cwp c ≡ 8 + (16 * cwp + 112 + (c - 32)) % 128 → Lies cwp c

-- where a cell lies
pub lies : (cwp c : ℕ) → Lies cwp c
lies cwp c =
    elim (cases_lt c 32) [
      | inl near ↦ (let t : nat_lt c 32 ≡ true = grind (arith, nat_tests) in
          elim (cases_lt c 8) [
            | inl low ↦ Global low (rw t (physical_low cwp c low))
            | inr high ↦ Near high near (rw t (let e = physical_high cwp c high in omega arith))
          ])
      | inr far ↦
          (let t : nat_lt c 32 ≡ false = grind (arith, nat_tests) in
          let high : 8 ≤ c - 24 = omega arith in
          Deep far (rw t (let e = physical_high (window_at cwp 1) (c - 24) high in omega arith)))
    ]

-- a register's cell is that register
pub registers_are_cells : RegistersAreCells
registers_are_cells cwp zero r window shallow below =
    let t : nat_lt r 32 ≡ true = grind (arith, nat_tests) in
    let w : cwp ≡ window_at cwp 0 = omega arith in
    rw t (ap (λ (x : ℕ). physical_of x r) w)
registers_are_cells cwp (suc zero) r window shallow below =
    elim (stands 1 r) [
      | Same e (inl z) ↦ absurd (omega arith)
      | Same e (inr low) ↦ subst (λ (c : ℕ). place_of cwp c ≡ physical_of (window_at cwp 1) r) (sym e) (global low)
      | Below e high low ↦ subst (λ (c : ℕ). place_of cwp c ≡ physical_of (window_at cwp 1) r) (sym e) (deep high)
      | Shared e high ↦ subst (λ (c : ℕ). place_of cwp c ≡ physical_of (window_at cwp 1) r) (sym e) (shared high)
    ]
  where
    global : r < 8 → place_of cwp r ≡ physical_of (window_at cwp 1) r
    global low = let t : nat_lt r 32 ≡ true = grind (arith, nat_tests) in rw t (physical_low cwp r low ∙ sym (physical_low (window_at cwp 1) r low))

    deep : 8 ≤ r → place_of cwp (r + 24) ≡ physical_of (window_at cwp 1) r
    deep high =
        let t : nat_lt (r + 24) 32 ≡ false = grind (arith, nat_tests) in
        let back : r + 24 - 24 ≡ r = omega arith in
        rw t (ap (λ (x : ℕ). physical_of (window_at cwp 1) x) back)

    shared : 24 ≤ r → place_of cwp (r - 16) ≡ physical_of (window_at cwp 1) r
    shared high =
        let t : nat_lt (r - 16) 32 ≡ true = grind (arith, nat_tests) in
        let a = physical_high cwp (r - 16) (omega arith) in
        let b = physical_high (window_at cwp 1) r (omega arith) in
        let same : 8 + (16 * cwp + (r - 16) - 8) % 128 ≡ 8 + (16 * window_at cwp 1 + r - 8) % 128 = omega arith in
        rw t (a ∙ same ∙ sym b)
registers_are_cells cwp (suc (suc d)) r window shallow below = absurd (omega arith)

-- two cells of a frame stand apart
pub cells_are_apart : CellsAreApart
cells_are_apart cwp c k window low high differ same = differ (one (lies cwp c) (lies cwp k)) where
  one : Lies cwp c → Lies cwp k → c ≡ k
  one (Global a e) (Global b f) = sym e ∙ same ∙ f
  one (Global a e) (Near b d f) = let g : c ≡ 8 + (16 * cwp + 112 + (k + 8)) % 128 = sym e ∙ same ∙ f in omega arith
  one (Global a e) (Deep b f) = let g : c ≡ 8 + (16 * cwp + 112 + (k - 32)) % 128 = sym e ∙ same ∙ f in omega arith
  one (Near a u e) (Global b f) = let g : 8 + (16 * cwp + 112 + (c + 8)) % 128 ≡ k = sym e ∙ same ∙ f in omega arith
  one (Near a u e) (Near b d f) = let g : 8 + (16 * cwp + 112 + (c + 8)) % 128 ≡ 8 + (16 * cwp + 112 + (k + 8)) % 128 = sym e ∙ same ∙ f in omega arith
  one (Near a u e) (Deep b f) = let g : 8 + (16 * cwp + 112 + (c + 8)) % 128 ≡ 8 + (16 * cwp + 112 + (k - 32)) % 128 = sym e ∙ same ∙ f in omega arith
  one (Deep a e) (Global b f) = let g : 8 + (16 * cwp + 112 + (c - 32)) % 128 ≡ k = sym e ∙ same ∙ f in omega arith
  one (Deep a e) (Near b d f) = let g : 8 + (16 * cwp + 112 + (c - 32)) % 128 ≡ 8 + (16 * cwp + 112 + (k + 8)) % 128 = sym e ∙ same ∙ f in omega arith
  one (Deep a e) (Deep b f) = let g : 8 + (16 * cwp + 112 + (c - 32)) % 128 ≡ 8 + (16 * cwp + 112 + (k - 32)) % 128 = sym e ∙ same ∙ f in omega arith

-- only r0 is cell 0
pub cell_zero : (depth r : ℕ) → r ≡ 0 → cell_of depth r ≡ 0
cell_zero depth r none =
    elim (stands depth r) [
      | Same e w ↦ e ∙ none
      | Below e a b ↦ absurd (omega arith)
      | Shared e a ↦ absurd (omega arith)
    ]

-- what cells hold once one was written
pub with_content-same : (contents : ℕ → ℕ) (c value : ℕ) → c ≢ 0 → with_content contents c value c ≡ value
with_content-same contents c value some =
    let t : (c == c) ≡ true = grind (arith, nat_tests) in
    let u : (c == 0) ≡ false = grind (arith, nat_tests) in
    rw (t, u) refl

-- a write leaves the other cells
pub with_content-other : (contents : ℕ → ℕ) (c value k : ℕ) → k ≢ c → with_content contents c value k ≡ contents k
with_content-other contents c value k other = let t : (k == c) ≡ false = grind (arith, nat_tests) in rw t refl

-- a write to cell 0 leaves all cells
pub with_content-zero : (contents : ℕ → ℕ) (c value k : ℕ) → c ≡ 0 → with_content contents c value k ≡ contents k
with_content-zero contents c value k none =
    let u : (c == 0) ≡ true = grind (arith, nat_tests) in rw u (by (k == c)) where
      by : (b : Bool) → cond (b && false) value (contents k) ≡ contents k
      by true = refl
      by false = refl

-- registers stand within a machine
pub physical_within : (cwp r : ℕ) → physical_of cwp r < 136
physical_within cwp r = elim (cases_lt r 8) [
  | inl low ↦ (let e = physical_low cwp r low in omega arith)
  | inr high ↦ (let e = physical_high cwp r high in omega arith)
]

-- a cell that isn't 0 holds what stands at its place
pub content_there : (m : Machine) (cwp c : ℕ) → c ≢ 0 → content_of m cwp c ≡ slice_index m.regs (place_of cwp c)
content_there m cwp c some = let t : (c == 0) ≡ false = grind (arith, nat_tests) in rw t refl

-- cell 0 holds 0
pub content_zero : (m : Machine) (cwp c : ℕ) → c ≡ 0 → content_of m cwp c ≡ 0
content_zero m cwp c none = let t : (c == 0) ≡ true = grind (arith, nat_tests) in rw t refl

read : (cwp depth : ℕ) (m : Machine) (r : ℕ) → IsAtDepth cwp depth m → r < 32 → register_of m r ≡ content_of m cwp (cell_of depth r)
read cwp depth m r at below = elim (eqb_tells r 0) [
  | inl none ↦ (let t = none.0 in rw t (sym (content_zero m cwp (cell_of depth r) (cell_zero depth r none.1))))
  | inr some ↦
      (let t = some.0 in
      let place : physical_of m.cwp r ≡ place_of cwp (cell_of depth r) =
      ap (λ (w : ℕ). physical_of w r) at.is ∙ sym (registers_are_cells cwp depth r at.window at.shallow below) in
      let there : cell_of depth r ≢ 0 = λ zero_cell. some.1 ((cells_tell_registers_apart.zero) depth r zero_cell) in
      rw t (ap (λ (p : ℕ). slice_index m.regs p) place ∙ sym (content_there m cwp (cell_of depth r) there)))
]

-- a machine with a word at the place of a register
abbrev put_at : Machine → ℕ → ℕ → Machine
put_at m r value = record m { regs = slice_set m.regs (physical_of m.cwp r) value }

written : (cwp depth : ℕ) (m : Machine) (r value c : ℕ) → IsAtDepth cwp depth m → r < 32 → c < 48
    → content_of (with_register m r value) cwp c ≡ with_content (content_of m cwp) (cell_of depth r) value c
written cwp depth m r value c at below within = elim (eqb_tells r 0) [
  | inl none ↦ (let t = none.0 in rw t (sym (with_content-zero (content_of m cwp) (cell_of depth r) value c (cell_zero depth r none.1))))
  | inr some ↦ (let t = some.0 in rw t (elsewhere some.1))
]
  where
    place : physical_of m.cwp r ≡ place_of cwp (cell_of depth r)
    place = ap (λ (w : ℕ). physical_of w r) at.is ∙ sym (registers_are_cells cwp depth r at.window at.shallow below)

    cell_some : r ≢ 0 → cell_of depth r ≢ 0
    cell_some some zero_cell = some ((cells_tell_registers_apart.zero) depth r zero_cell)

    inside : physical_of m.cwp r < length m.regs
    inside = let e = at.size in let w = physical_within m.cwp r in omega arith

    here : r ≢ 0 → content_of (put_at m r value) cwp (cell_of depth r) ≡ value
    here some =
        content_there (put_at m r value) cwp (cell_of depth r) (cell_some some)
        ∙ ap (λ (p : ℕ). slice_index (slice_set m.regs (physical_of m.cwp r) value) p) (sym place)
        ∙ get_or-set_same m.regs (physical_of m.cwp r) value 0 inside

    others : c ≢ cell_of depth r → content_of (put_at m r value) cwp c ≡ content_of m cwp c
    others other = elim (eqb_tells c 0) [
      | inl none ↦ content_zero (put_at m r value) cwp c none.1 ∙ sym (content_zero m cwp c none.1)
      | inr here ↦
          (let away : place_of cwp c ≢ physical_of m.cwp r =
          λ same. cells_are_apart cwp c (cell_of depth r) at.window within ((cells_tell_registers_apart.within) depth r below) other (same ∙ place) in
          content_there (put_at m r value) cwp c here.1
          ∙ get_or-set_other m.regs (physical_of m.cwp r) (place_of cwp c) value 0 away
          ∙ sym (content_there m cwp c here.1))
    ]

    elsewhere : r ≢ 0 → content_of (put_at m r value) cwp c ≡ with_content (content_of m cwp) (cell_of depth r) value c
    elsewhere some = elim (eqb_tells c (cell_of depth r)) [
      | inl same ↦
          ap (λ (k : ℕ). content_of (put_at m r value) cwp k) same.1 ∙ here some
          ∙ sym (ap (λ (k : ℕ). with_content (content_of m cwp) (cell_of depth r) value k) same.1
          ∙ with_content-same (content_of m cwp) (cell_of depth r) value (cell_some some))
      | inr other ↦ others other.1 ∙ sym (with_content-other (content_of m cwp) (cell_of depth r) value c other.1)
    ]

-- a cell holds a word
pub content_word : (cwp : ℕ) (m : Machine) (c : ℕ) → IsMachine m → content_of m cwp c < 2 ^ 32
content_word cwp m c is = go (eqb c 0) where
  go : (b : Bool) → cond b 0 (slice_index m.regs (place_of cwp c)) < 2 ^ 32
  go true = omega arith
  go false = below_everywhere (2 ^ 32) m.regs (place_of cwp c) (omega arith) is.words

-- registers have what their cells hold; a write of one changes what its cell holds alone; and all are words
pub registers_hold_contents : RegistersHoldContents
registers_hold_contents = record { read = read; written = written; words = content_word }
