-- What the frames below a subprogram that isn't looked into keep until it is popped.
use Rattle.std.proofs.Common.{◌≡◌, ℕ, zero, suc, ◌+◌, ◌-◌, ◌*◌, ◌/◌, ◌%◌, ◌<◌, ◌≤◌, ◌⊎◌, inl, inr, ◌&&◌, ◌||◌, Bool, true, false, List, [], ◌∷◌, refl}
use Rattle.std.proofs.Common.{sym, ap, subst, ◌∙◌, arith}
use Rattle.std.specs.Prelude.{nat_lt, nat_le, not, slice_index}
use Rattle.std.proofs.lemmas.Bool.{cases_lt, and_parts}
use Rattle.std.proofs.lemmas.Bool.Decides.{nat_tests, eqb_tells}
use Rattle.call_effects.proofs.MaskLemmas.{within_has}
use Rattle.call_effects.proofs.SummaryLemmas.{up_parts}
use Rattle.call_effects.specs.Mask.{has_cell}
use Rattle.call_effects.specs.Summary.{effects_of_stub, is_at_most}
use Rattle.cell_places.proofs.LevelLemmas.{places_are_altitudes}
use Rattle.cell_places.proofs.PlaceLemmas.{physical_high, content_there, content_zero, Lies, Global, Near, Deep, lies}
use Rattle.cell_places.specs.Level.{IsCellBetween, altitude_of}
use Rattle.cell_places.specs.Place.{place_of, content_of}
use Rattle.sparc_machine.specs.Frame.{Frame}
use Rattle.sparc_machine.specs.declared.machine.Machine.{Machine}
use Rattle.sparc_runs.specs.High.{AreHigh, frame_level, root_window}
use Rattle.sparc_runs.specs.Stub.{StubReturns}
use Rattle.sparc_runs.specs.Window.{IsInUse, depth_from, level_above}
use Rattle.stack_laws.proofs.Keeping.{AreSome, IsOwn, stay, top_used}
use Rattle.stack_laws.specs.Standing.{AreHanging, AreWaiting, StackFacts, summary_in}
use Rattle.transfer_rules.specs.Give.{Facts}

-- a test that holds of each number below a bound
abbrev upto : ℕ → (ℕ → Bool) → Bool
upto zero test = true
upto (suc n) test = test n && upto n test

upto_each : (n : ℕ) (test : ℕ → Bool) → upto n test ≡ true → (c : ℕ) → c < n → test c ≡ true
upto_each zero test all c below = absurd (omega arith)
upto_each (suc n) test all c below =
    let parts = and_parts (test n) (upto n test) all in
    elim (eqb_tells c n) [
      | inl last ↦ subst (λ (k : ℕ). test k ≡ true) (sym last.1) parts.0
      | inr other ↦ (let differ = other.1 in upto_each n test parts.1 c (omega arith))
    ]

-- the cells that are globals, outs, or registers of the window below
abbrev pub is_outer : ℕ → Bool
is_outer c = (nat_le 1 c && nat_lt c 16) || nat_le 32 c

abbrev outer_or_not : ℕ → Bool
outer_or_not c = not (is_outer c) || has_cell effects_of_stub.written c

-- a subprogram that isn't looked into may write each of those
pub stub_has : (c : ℕ) → c < 48 → is_outer c ≡ true → has_cell effects_of_stub.written c ≡ true
stub_has c below outer =
    let all : upto 48 outer_or_not ≡ true = refl in
    let here = upto_each 48 outer_or_not all c below in
    subst (λ (b : Bool). (not b || has_cell effects_of_stub.written c) ≡ true) outer here

-- where a window stands, by its level above the invalid one, and how far the root's is above another
levels_differ : (invalid low high : ℕ) → invalid < 8 → IsInUse invalid low → IsInUse invalid high → level_above invalid low ≤ level_above invalid high
    → level_above invalid high - level_above invalid low ≤ depth_from high low
levels_differ invalid low high below a b up =
    let p = a.window in let q = a.other in let r = b.window in let s = b.other in
    omega arith

-- the root's level is the highest
pub root_is_highest : (invalid : ℕ) (top : Frame) (rest : List Frame) → AreHigh invalid (top ∷ rest)
    → frame_level invalid top ≤ level_above invalid (root_window top rest)
root_is_highest invalid top [] high = omega arith
root_is_highest invalid top (below ∷ rest) high =
    let h = root_is_highest invalid below rest high.2 in
    let a = high.1 in
    omega arith

-- and its window is in use
pub root_in_use : (invalid : ℕ) (top : Frame) (rest : List Frame) → AreHigh invalid (top ∷ rest) → IsInUse invalid (root_window top rest)
root_in_use invalid top [] high = high
root_in_use invalid top (below ∷ rest) high = root_in_use invalid below rest high.2

-- A frame that isn't looked into was popped, in the window of its push. A stack's root is as high as this.
module _
    (x : Facts)
    (invalid root : ℕ)
    (lowest : Frame)
    (next : Machine)
    (below : invalid < 8)
    (used : IsInUse invalid lowest.start.cwp)
    (root_used : IsInUse invalid root)
    (tall : frame_level invalid lowest ≤ level_above invalid root)
    (writes : is_at_most effects_of_stub (summary_in x lowest.sub) ≡ true)
    (back : StubReturns root lowest next)
  where
    -- a frame from the lowest up to the root
    record IsWithin (H : Frame) : Type 0 where
      pub in_use : IsInUse invalid H.start.cwp
      pub up : frame_level invalid lowest ≤ frame_level invalid H
      pub most : frame_level invalid H ≤ level_above invalid root

    -- the registers below r16 of the lowest frame's window, and the globals
    data Changed (H : Frame) (c : ℕ) : Type 0 where
      Shared : 1 ≤ c → c < 8 → Changed H c
      Low : 8 ≤ c → altitude_of (frame_level invalid H) c < 16 * frame_level invalid lowest + 24 → Changed H c

    -- r16 to r31 of the windows from the lowest frame's up to the root's are as they were
    same_at : (a : ℕ) → 16 * frame_level invalid lowest + 24 ≤ a → a < 16 * level_above invalid root + 40
        → slice_index next.regs (8 + (16 * invalid + a) % 128) ≡ slice_index lowest.start.regs (8 + (16 * invalid + a) % 128)
    same_at a least most =
        let low : ℕ = frame_level invalid lowest in
        let k : ℕ = (a - 24) / 16 - low in
        let r : ℕ = 16 + (a - 24) % 16 in
        let up : low ≤ level_above invalid root = omega arith in
        let far = levels_differ invalid lowest.start.cwp root below used root_used up in
        let near : k ≤ depth_from root lowest.start.cwp = omega arith in
        let there = physical_high ((lowest.start.cwp + k) % 8) r (omega arith) in
        let w = used.window in let o = used.other in
        let place : 8 + (16 * ((lowest.start.cwp + k) % 8) + r - 8) % 128 ≡ 8 + (16 * invalid + a) % 128 = omega arith in
        subst (λ (p : ℕ). slice_index next.regs p ≡ slice_index lowest.start.regs p) (there ∙ place) (back.kept k r near (omega arith) (omega arith))

    kept : (H : Frame) (c : ℕ) → IsWithin H → c < 48 → (content_of next H.start.cwp c ≡ content_of lowest.start H.start.cwp c) ⊎ Changed H c
    kept H c there within = elim (eqb_tells c 0) [
      | inl none ↦ inl (content_zero next H.start.cwp c none.1 ∙ sym (content_zero lowest.start H.start.cwp c none.1))
      | inr some ↦ elim (cases_lt c 8) [
        | inl global ↦ (let differ = some.1 in inr (Shared (omega arith) global))
        | inr local ↦ elim (cases_lt (altitude_of (frame_level invalid H) c) (16 * frame_level invalid lowest + 24)) [
          | inl low ↦ inr (Low local low)
          | inr high ↦
              (let most = there.most in
              let place = places_are_altitudes invalid H.start.cwp c below (there.in_use).window local within in
              let same = same_at (altitude_of (frame_level invalid H) c) high (top_altitude (frame_level invalid H) c within most) in
              inl
              (content_there next H.start.cwp c some.1 ∙ ap (λ (p : ℕ). slice_index next.regs p) place ∙ same
              ∙ sym (content_there lowest.start H.start.cwp c some.1 ∙ ap (λ (p : ℕ). slice_index lowest.start.regs p) place)))
        ]
      ]
    ]
      where
        top_altitude : (level c : ℕ) → c < 48 → level ≤ level_above invalid root → altitude_of level c < 16 * level_above invalid root + 40
        top_altitude level c within most = elim (cases_lt c 32) [
          | inl near ↦ (let t : nat_lt c 32 ≡ true = grind (arith, nat_tests) in rw t (omega arith))
          | inr far ↦ (let t : nat_lt c 32 ≡ false = grind (arith, nat_tests) in rw t (omega arith))
        ]

    -- an altitude within a frame is a cell of it
    cell_at : (G : Frame) (a : ℕ) → IsWithin G → 16 * frame_level invalid G ≤ a → a < 16 * frame_level invalid G + 40
        → (c : ℕ) × (8 ≤ c) × (c < 48) × (altitude_of (frame_level invalid G) c ≡ a)
    cell_at G a there least most = elim (cases_lt (a - 16 * frame_level invalid G) 16) [
      | inl deep ↦
          (let c : ℕ = 32 + (a - 16 * frame_level invalid G) in
          let t : nat_lt (32 + (a - 16 * frame_level invalid G)) 32 ≡ false = grind (arith, nat_tests) in
          (c, omega arith, omega arith, rw t (omega arith)))
      | inr near ↦
          (let c : ℕ = a - 16 * frame_level invalid G - 8 in
          let t : nat_lt (a - 16 * frame_level invalid G - 8) 32 ≡ true = grind (arith, nat_tests) in
          (c, omega arith, omega arith, rw t (omega arith)))
    ]

    -- altitudes rise with levels
    least_altitude : (level c : ℕ) → 16 * level ≤ altitude_of level c
    least_altitude level c = omega arith

    place_at : (G : Frame) (c a : ℕ) → IsWithin G → 8 ≤ c → c < 48 → altitude_of (frame_level invalid G) c ≡ a
        → place_of G.start.cwp c ≡ 8 + (16 * invalid + a) % 128
    place_at G c a there high within is =
        places_are_altitudes invalid G.start.cwp c below (there.in_use).window high within ∙ ap (λ (n : ℕ). 8 + (16 * invalid + n) % 128) is

    global_place : (cwp c : ℕ) → c < 8 → place_of cwp c ≡ c
    global_place cwp c low = by (lies cwp c) where
      by : Lies cwp c → place_of cwp c ≡ c
      by (Global a e) = e
      by (Near a b e) = absurd (omega arith)
      by (Deep a e) = absurd (omega arith)

    between : (G H : Frame) (c : ℕ) → IsWithin G → IsWithin H → frame_level invalid G ≤ frame_level invalid H → c < 48 → Changed H c
        → IsCellBetween G.start.cwp (place_of H.start.cwp c)
    between G H c middle there further within (Shared some low) =
        record { cell = c; within = within; is = global_place G.start.cwp c low ∙ sym (global_place H.start.cwp c low) }
    between G H c middle there further within (Low high low) =
        let a : ℕ = altitude_of (frame_level invalid H) c in
        let least = least_altitude (frame_level invalid H) c in
        let up = middle.up in
        let cell = cell_at G a middle (omega arith) (omega arith) in
        record {
          cell = cell.0;
          within = cell.2;
          is = place_at G cell.0 a middle cell.1 cell.2 cell.3 ∙ sym (place_at H c a there high within refl);
        }

    may_write : (c : ℕ) → c < 48 → is_outer c ≡ true → has_cell (summary_in x lowest.sub).written c ≡ true
    may_write c within outer =
        within_has effects_of_stub.written (summary_in x lowest.sub).written (up_parts effects_of_stub (summary_in x lowest.sub) writes).written c
        (stub_has c within outer)

    owns : (H : Frame) (c : ℕ) → IsWithin H → frame_level invalid lowest ≤ frame_level invalid H → c < 48 → Changed H c
        → IsOwn x lowest (place_of H.start.cwp c)
    owns H c there up within (Shared some low) = record {
      cell = c;
      within = within;
      is = global_place lowest.start.cwp c low ∙ sym (global_place H.start.cwp c low);
      has = may_write c within (outer_low c some (omega arith));
    }
      where
        outer_low : (c : ℕ) → 1 ≤ c → c < 16 → is_outer c ≡ true
        outer_low c some low =
            let t : nat_le 1 c ≡ true = grind (arith, nat_tests) in
            let u : nat_lt c 16 ≡ true = grind (arith, nat_tests) in
            rw (t, u) refl
    owns H c there up within (Low high low) =
        let a : ℕ = altitude_of (frame_level invalid H) c in
        let least = least_altitude (frame_level invalid H) c in
        let cell = cell_at lowest a itself (omega arith) (omega arith) in
        record {
          cell = cell.0;
          within = cell.2;
          is = place_at lowest cell.0 a itself cell.1 cell.2 cell.3 ∙ sym (place_at H c a there high within refl);
          has = may_write cell.0 cell.2 (outer_by cell.0 cell.1 cell.3);
        }
      where
        itself : IsWithin lowest
        itself = record { in_use = used; up = omega arith; most = tall }

        outer_by : (k : ℕ) → 8 ≤ k → altitude_of (frame_level invalid lowest) k ≡ altitude_of (frame_level invalid H) c → is_outer k ≡ true
        outer_by k least is = elim (cases_lt k 32) [
          | inl near ↦
              (let t : nat_lt k 32 ≡ true = grind (arith, nat_tests) in
              let height : altitude_of (frame_level invalid lowest) k ≡ 16 * frame_level invalid lowest + (k + 8) = rw t refl in
              let here : k < 16 = omega arith in
              let u : nat_lt k 16 ≡ true = grind (arith, nat_tests) in
              let v : nat_le 1 k ≡ true = grind (arith, nat_tests) in
              rw (v, u) refl)
          | inr far ↦
              (let t : nat_le 32 k ≡ true = grind (arith, nat_tests) in
              let u : nat_lt k 16 ≡ false = grind (arith, nat_tests) in
              let v : nat_le 1 k ≡ true = grind (arith, nat_tests) in
              rw (v, u, t) refl)
        ]

    are_within : (G : Frame) (rest : List Frame) → AreHigh invalid (G ∷ rest) → frame_level invalid lowest ≤ frame_level invalid G
        → root_window G rest ≡ root → AreSome x invalid lowest.start next IsWithin Changed kept between rest
    are_within G [] high least is = tt
    are_within G (F ∷ rest) high least is =
        let rises = high.1 in
        let far : frame_level invalid lowest ≤ frame_level invalid F = omega arith in
        let under = subst (λ (w : ℕ). frame_level invalid F ≤ level_above invalid w) is (root_is_highest invalid F rest high.2) in
        (record { in_use = top_used invalid F rest high.2; up = far; most = under }, are_within F rest high.2 far is)

    -- the frames below keep what they wait with
    pub stubs_stay : (image : List ℕ) (y : StackFacts) (rest : List Frame) → AreWaiting y x lowest rest lowest.start → AreHanging image y x lowest rest
        → AreHigh invalid (lowest ∷ rest) → root_window lowest rest ≡ root → AreWaiting y x lowest rest next
    stubs_stay image y rest waiting hanging high is =
        stay x invalid lowest.start next IsWithin Changed kept between image y lowest rest waiting hanging high
        (are_within lowest rest high (omega arith) is) owns
