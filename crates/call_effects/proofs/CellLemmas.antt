-- Cells of registers: which register a cell is of.
use Rattle.std.proofs.Common.{◌≡◌, ℕ, zero, suc, ◌+◌, ◌-◌, ◌<◌, ◌≤◌, ◌⊎◌, inl, inr, ◌||◌, Bool, true, false, refl, sym, subst, arith}
use Rattle.std.specs.Prelude.{◌==◌, nat_lt, if◌then◌else◌}
use Rattle.std.proofs.lemmas.Bool.{cases_lt}
use Rattle.std.proofs.lemmas.Bool.Decides.{nat_tests}
use Rattle.call_effects.specs.Cell.{cell_of, CellsTellRegistersApart}

-- where the cell of a register stands: at its own number, 24 above it, or 16 below it
pub data Stands (depth r : ℕ) : Type 0 where
  Same : cell_of depth r ≡ r → (depth ≡ 0) ⊎ (r < 8) → Stands depth r
  Below : cell_of depth r ≡ r + 24 → 8 ≤ r → r < 24 → Stands depth r
  Shared : cell_of depth r ≡ r - 16 → 24 ≤ r → Stands depth r

-- a number above 0 isn't 0
pub positive : (d : ℕ) → (suc d == 0) ≡ false
positive d = let e : suc d ≡ 0 → ⊥ = omega arith in grind (arith, nat_tests)

-- where a register of a depth stands among the cells
pub stands : (depth r : ℕ) → Stands depth r
stands zero r = Same refl (inl refl)
stands (suc d) r =
    elim (cases_lt r 8) [
      | inl low ↦ Same (let t : nat_lt r 8 ≡ true = grind (arith, nat_tests) in rw (positive d, t) refl) (inr low)
      | inr high ↦ (let t : nat_lt r 8 ≡ false = grind (arith, nat_tests) in
          elim (cases_lt r 24) [
            | inl mid ↦ Below (let u : nat_lt r 24 ≡ true = grind (arith, nat_tests) in rw (positive d, t, u) refl) high mid
            | inr top ↦ Shared (let u : nat_lt r 24 ≡ false = grind (arith, nat_tests) in rw (positive d, t, u) refl) top
          ])
    ]

within : (depth r : ℕ) → r < 32 → cell_of depth r < 48
within depth r below =
    elim (stands depth r) [
      | Same e w ↦ omega arith
      | Below e a b ↦ omega arith
      | Shared e a ↦ omega arith
    ]

only_zero : (depth r : ℕ) → cell_of depth r ≡ 0 → r ≡ 0
only_zero depth r none =
    elim (stands depth r) [
      | Same e w ↦ omega arith
      | Below e a b ↦ omega arith
      | Shared e a ↦ omega arith
    ]

at_zero : (depth r : ℕ) → depth ≡ 0 → cell_of depth r ≡ r
at_zero depth r e = subst (λ (d : ℕ). cell_of d r ≡ r) (sym e) refl

apart : (depth r s : ℕ) → r < 32 → s < 32 → Stands depth r → Stands depth s → cell_of depth r ≡ cell_of depth s → r ≡ s
apart depth r s low high (Same e (inl w)) (Same f v) same = omega arith
apart depth r s low high (Same e (inr w)) (Same f v) same = omega arith
apart depth r s low high (Same e (inl w)) (Below f c d) same = omega arith
apart depth r s low high (Same e (inr w)) (Below f c d) same = omega arith
apart depth r s low high (Same e (inl w)) (Shared f c) same = absurd (let z = at_zero depth s w in omega arith)
apart depth r s low high (Same e (inr w)) (Shared f c) same = omega arith
apart depth r s low high (Below e a b) (Same f v) same = omega arith
apart depth r s low high (Below e a b) (Below f c d) same = omega arith
apart depth r s low high (Below e a b) (Shared f c) same = omega arith
apart depth r s low high (Shared e a) (Same f (inl v)) same = absurd (let z = at_zero depth r v in omega arith)
apart depth r s low high (Shared e a) (Same f (inr v)) same = omega arith
apart depth r s low high (Shared e a) (Below f c d) same = omega arith
apart depth r s low high (Shared e a) (Shared f c) same = omega arith

-- registers of one window have cells of their own
pub cells_tell_registers_apart : CellsTellRegistersApart
cells_tell_registers_apart =
    record {
      within = within;
      zero = only_zero;
      differ = λ depth r s low high. apart depth r s low high (stands depth r) (stands depth s);
    }
