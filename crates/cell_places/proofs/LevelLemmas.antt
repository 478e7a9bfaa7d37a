-- How high cells stand above the invalid window.
use Rattle.std.proofs.Common.{◌≡◌, ℕ, zero, suc, ◌+◌, ◌-◌, ◌*◌, ◌%◌, ◌<◌, ◌≤◌, inl, inr, true, false, Some, refl, sym, ap, subst, ◌∙◌, arith}
use Rattle.std.specs.Prelude.{nat_lt}
use Rattle.std.proofs.lemmas.Bool.{cases_lt}
use Rattle.std.proofs.lemmas.Bool.Decides.{nat_tests, eqb_tells}
use Rattle.call_effects.proofs.CellLemmas.{cells_tell_registers_apart}
use Rattle.call_effects.specs.Cell.{cell_of}
use Rattle.call_effects.specs.Mask.{caller_cell}
use Rattle.cell_places.proofs.PlaceLemmas.{physical_low, physical_high, Lies, Global, Near, Deep, lies, registers_are_cells, cells_are_apart}
use Rattle.cell_places.specs.Level.{height_of, altitude_of, PlacesAreAltitudes, CalleesCellsAreCallers, IsCellBetween, CellsAreBetween}
use Rattle.cell_places.specs.Place.{window_at, place_of}
use Rattle.sparc_machine.specs.Register.{physical_of}
use Rattle.sparc_runs.proofs.Levels.{below_seven}
use Rattle.sparc_runs.specs.Window.{level_above}

height_near : (c : ℕ) → c < 32 → height_of c ≡ c + 8
height_near c low = let t : nat_lt c 32 ≡ true = grind (arith, nat_tests) in rw t refl

height_far : (c : ℕ) → 32 ≤ c → height_of c ≡ c - 32
height_far c high = let t : nat_lt c 32 ≡ false = grind (arith, nat_tests) in rw t refl

-- the place of a cell that is no global is its altitude above the invalid window, round the ring of windows
pub places_are_altitudes : PlacesAreAltitudes
places_are_altitudes invalid cwp c below window low high = go (lies cwp c) where
  go : Lies cwp c → place_of cwp c ≡ 8 + (16 * invalid + altitude_of (level_above invalid cwp) c) % 128
  go (Global a e) = absurd (omega arith)
  go (Near a b e) =
      let h = height_near c b in
      let f : 8 + (16 * cwp + 112 + (c + 8)) % 128 ≡ 8 + (16 * invalid + (16 * level_above invalid cwp + (c + 8))) % 128 = omega arith in
      e ∙ f ∙ ap (λ (n : ℕ). 8 + (16 * invalid + (16 * level_above invalid cwp + n)) % 128) (sym h)
  go (Deep a e) =
      let h = height_far c a in
      let f : 8 + (16 * cwp + 112 + (c - 32)) % 128 ≡ 8 + (16 * invalid + (16 * level_above invalid cwp + (c - 32))) % 128 = omega arith in
      e ∙ f ∙ ap (λ (n : ℕ). 8 + (16 * invalid + (16 * level_above invalid cwp + n)) % 128) (sym h)

-- a callee's cell that is a register of its window
caller_near : (depth c : ℕ) → c < 32 → caller_cell depth c ≡ Some (cell_of depth c)
caller_near depth c low = let t : nat_lt c 32 ≡ true = grind (arith, nat_tests) in rw t refl

-- a cell of a callee that is a cell of its caller is the one that stands for it there
pub callees_cells_are_callers : CalleesCellsAreCallers
callees_cells_are_callers cwp depth c k window shallow low high same = elim (cases_lt c 32) [
  | inl near ↦ caller_near depth c near ∙ ap (λ (x : ℕ). Some x) (is_cell near)
  | inr far ↦ by_depth depth shallow far same
]
  where
    is_cell : c < 32 → cell_of depth c ≡ k
    is_cell near = elim (eqb_tells (cell_of depth c) k) [
      | inl is ↦ is.1
      | inr other ↦
          (let t : nat_lt c 32 ≡ true = grind (arith, nat_tests) in
          let here : place_of (window_at cwp depth) c ≡ physical_of (window_at cwp depth) c = rw t refl in
          absurd
          (cells_are_apart cwp (cell_of depth c) k window ((cells_tell_registers_apart.within) depth c near) high other.1
          (registers_are_cells cwp depth c window shallow near ∙ sym here ∙ same)))
    ]

    by_depth : (d : ℕ) → d < 2 → 32 ≤ c → place_of (window_at cwp d) c ≡ place_of cwp k → caller_cell d c ≡ Some k
    by_depth zero two far there =
        let t : nat_lt c 32 ≡ false = grind (arith, nat_tests) in
        let w : window_at cwp 0 ≡ cwp = omega arith in
        let e : place_of cwp c ≡ place_of cwp k = subst (λ (x : ℕ). place_of x c ≡ place_of cwp k) w there in
        let is : c ≡ k = elim (eqb_tells c k) [ inl is ↦ is.1 | inr other ↦ absurd (cells_are_apart cwp c k window low high other.1 e) ] in
        rw t (ap (λ (x : ℕ). Some x) is)
    by_depth (suc zero) two far there = absurd (apart (lies (window_at cwp 1) c) (lies cwp k)) where
      apart : Lies (window_at cwp 1) c → Lies cwp k → ⊥
      apart (Global a e) other = omega arith
      apart (Near a b e) other = omega arith
      apart (Deep a e) (Global b f) = let g : 8 + (16 * window_at cwp 1 + 112 + (c - 32)) % 128 ≡ k = sym e ∙ there ∙ f in omega arith
      apart (Deep a e) (Near b d f) =
          let g : 8 + (16 * window_at cwp 1 + 112 + (c - 32)) % 128 ≡ 8 + (16 * cwp + 112 + (k + 8)) % 128 = sym e ∙ there ∙ f in omega arith
      apart (Deep a e) (Deep b f) =
          let g : 8 + (16 * window_at cwp 1 + 112 + (c - 32)) % 128 ≡ 8 + (16 * cwp + 112 + (k - 32)) % 128 = sym e ∙ there ∙ f in omega arith
    by_depth (suc (suc d)) two far there = absurd (omega arith)

-- a register from 8 on of a window, by its altitude
register_place : (invalid w r : ℕ) → invalid < 8 → w < 8 → 8 ≤ r → physical_of w r ≡ 8 + (16 * invalid + (16 * level_above invalid w + (r + 8))) % 128
register_place invalid w r below window high =
    let e = physical_high w r high in
    let f : 8 + (16 * w + r - 8) % 128 ≡ 8 + (16 * invalid + (16 * level_above invalid w + (r + 8))) % 128 = omega arith in
    e ∙ f

-- altitudes of one place are one, where they are near each other
same_altitude : (base a b : ℕ) → a < b + 128 → b < a + 128 → 8 + (base + a) % 128 ≡ 8 + (base + b) % 128 → a ≡ b
same_altitude base a b near far same = omega arith

-- the cell at a height of its frame
at_height : (h : ℕ) → h < 40 → (j : ℕ) × (8 ≤ j) × (j < 48) × (height_of j ≡ h)
at_height h low = elim (cases_lt h 16) [
  | inl deep ↦ (let e = height_far (h + 32) (omega arith) in (h + 32, omega arith, omega arith, omega arith))
  | inr near ↦ (let e = height_near (h - 8) (omega arith) in (h - 8, omega arith, omega arith, omega arith))
]

height_low : (c : ℕ) → 8 ≤ c → c < 48 → height_of c < 40
height_low c low high = elim (cases_lt c 32) [
  | inl near ↦ (let e = height_near c near in omega arith)
  | inr far ↦ (let e = height_far c far in omega arith)
]

-- a register that a frame may write, and that is a cell of a frame above it, is a cell of each frame between them
pub cells_are_between : CellsAreBetween
cells_are_between invalid low middle high depth r k is within same = elim (cases_lt r 8) [
  | inl global ↦
      (let t : nat_lt r 32 ≡ true = grind (arith, nat_tests) in
      record { cell = r; within = omega arith; is = rw t (physical_low middle r global ∙ sym (physical_low (window_at low depth) r global)) })
  | inr ring ↦ in_ring ring (lies high k)
]
  where
    w : ℕ
    w = window_at low depth

    found : 8 ≤ r → 8 ≤ k → IsCellBetween middle (physical_of (window_at low depth) r)
    found ring some =
        let own = register_place invalid (window_at low depth) r is.invalid_window is.here.window ring in
        let theirs = places_are_altitudes invalid high k is.invalid_window is.high_used.window some within in
        let most = below_seven invalid high is.invalid_window is.high_used in
        let h = height_low k some within in
        let rises = is.rises in
        let further = is.further in
        let above = is.above in
        let register = is.register in
        let a : ℕ = 16 * level_above invalid (window_at low depth) + (r + 8) in
        let even : a ≡ altitude_of (level_above invalid high) k =
        same_altitude (16 * invalid) a (altitude_of (level_above invalid high) k) (omega arith) (omega arith) (sym own ∙ sym same ∙ theirs) in
        let j = at_height (a - 16 * level_above invalid middle) (omega arith) in
        let there = places_are_altitudes invalid middle j.0 is.invalid_window is.middle_used.window j.1 j.2 in
        let sum : altitude_of (level_above invalid middle) j.0 ≡ a = (let e = j.3 in omega arith) in
        record { cell = j.0; within = j.2; is = there ∙ ap (λ (n : ℕ). 8 + (16 * invalid + n) % 128) sum ∙ sym own }

    in_ring : 8 ≤ r → Lies high k → IsCellBetween middle (physical_of (window_at low depth) r)
    in_ring ring (Global a e) = absurd (let f = physical_high (window_at low depth) r ring in omega arith)
    in_ring ring (Near a b e) = found ring a
    in_ring ring (Deep a e) = found ring (omega arith)
