-- What the frames below the top keep while the top frame writes its own cells.
use Rattle.std.proofs.Common.{◌≡◌, ℕ, ◌+◌, ◌<◌, ◌≤◌, ◌⊎◌, inl, inr, List, [], ◌∷◌, sym, subst, ◌∙◌, arith}
use Rattle.std.proofs.lemmas.Bool.Decides.{eqb_tells}
use Rattle.call_effects.proofs.CellLemmas.{cells_tell_registers_apart}
use Rattle.call_effects.specs.Cell.{cell_of}
use Rattle.cell_places.proofs.LevelLemmas.{cells_are_between}
use Rattle.cell_places.proofs.PlaceLemmas.{registers_are_cells, content_there, content_zero}
use Rattle.cell_places.specs.Level.{IsCellBetween, IsReached}
use Rattle.cell_places.specs.Place.{place_of, content_of, window_at}
use Rattle.sparc_machine.specs.Frame.{Frame}
use Rattle.sparc_machine.specs.declared.machine.Machine.{Machine}
use Rattle.sparc_runs.proofs.Levels.{depths}
use Rattle.sparc_runs.specs.High.{AreHigh, frame_level}
use Rattle.sparc_runs.specs.Window.{IsInUse, depth_from, level_above}
use Rattle.stack_laws.proofs.Keeping.{AreSome, IsOwn, stay, top_used}
use Rattle.stack_laws.specs.Standing.{AreHanging, AreWaiting, IsWritten, StackFacts, WritesCells, summary_in}
use Rattle.transfer_rules.specs.Give.{Facts}

-- a frame on top writes registers of the window at a depth below 2, which is in use
module _
    (x : Facts)
    (invalid : ℕ)
    (top : Frame)
    (m next : Machine)
    (below : invalid < 8)
    (used : IsInUse invalid top.start.cwp)
    (here : IsInUse invalid next.cwp)
    (shallow : depth_from top.start.cwp next.cwp < 2)
    (writes : WritesCells x top m next)
  where
    depth : ℕ
    depth = depth_from top.start.cwp next.cwp

    -- a register that is a cell of another frame is written
    abbrev Changed : Frame → ℕ → Type 0
    Changed H c = IsWritten (summary_in x top.sub).written top.start.cwp (depth_from top.start.cwp next.cwp) (place_of H.start.cwp c)

    -- frames above the top
    record IsUp (H : Frame) : Type 0 where
      pub in_use : IsInUse invalid H.start.cwp
      pub up : frame_level invalid top ≤ frame_level invalid H

    kept : (H : Frame) (c : ℕ) → IsUp H → c < 48 → (content_of next H.start.cwp c ≡ content_of m H.start.cwp c) ⊎ Changed H c
    kept H c there within = elim (eqb_tells c 0) [
      | inl none ↦ inl (content_zero next H.start.cwp c none.1 ∙ sym (content_zero m H.start.cwp c none.1))
      | inr some ↦ elim (writes (place_of H.start.cwp c)) [
        | inl same ↦ inl (content_there next H.start.cwp c some.1 ∙ same ∙ sym (content_there m H.start.cwp c some.1))
        | inr written ↦ inr written
      ]
    ]

    window : next.cwp ≡ window_at top.start.cwp (depth_from top.start.cwp next.cwp)
    window = (depths.is) top.start.cwp next.cwp used.window here.window

    between : (G H : Frame) (c : ℕ) → IsUp G → IsUp H → frame_level invalid G ≤ frame_level invalid H → c < 48 → Changed H c
        → IsCellBetween G.start.cwp (place_of H.start.cwp c)
    between G H c middle there further within written =
        let d : ℕ = depth_from top.start.cwp next.cwp in
        let level : level_above invalid top.start.cwp ≡ level_above invalid next.cwp + d =
        (depths.level) invalid top.start.cwp next.cwp below used here shallow in
        let least : level_above invalid next.cwp ≤ level_above invalid top.start.cwp = omega arith in
        let reached : IsReached invalid top.start.cwp G.start.cwp H.start.cwp d written.register = record {
          invalid_window = below;
          low_used = used;
          middle_used = middle.in_use;
          high_used = there.in_use;
          rises = middle.up;
          further = further;
          shallow = shallow;
          here = subst (λ (w : ℕ). IsInUse invalid w) window here;
          above = subst (λ (w : ℕ). level_above invalid w ≤ level_above invalid top.start.cwp) window least;
          register = written.within;
        } in
        subst (IsCellBetween G.start.cwp) written.is
        (cells_are_between invalid top.start.cwp G.start.cwp H.start.cwp d written.register c reached within (sym written.is))

    owns : (H : Frame) (c : ℕ) → IsUp H → frame_level invalid top ≤ frame_level invalid H → c < 48 → Changed H c → IsOwn x top (place_of H.start.cwp c)
    owns H c there up within written = record {
      cell = cell_of (depth_from top.start.cwp next.cwp) written.register;
      within = (cells_tell_registers_apart.within) (depth_from top.start.cwp next.cwp) written.register written.within;
      is = registers_are_cells top.start.cwp (depth_from top.start.cwp next.cwp) written.register used.window shallow written.within ∙ written.is;
      has = written.has;
    }

    are_up : (G : Frame) (rest : List Frame) → AreHigh invalid (G ∷ rest) → frame_level invalid top ≤ frame_level invalid G
        → AreSome x invalid m next IsUp Changed kept between rest
    are_up G [] high least = tt
    are_up G (F ∷ rest) high least =
        let rises = high.1 in
        let far : frame_level invalid top ≤ frame_level invalid F = omega arith in
        (record { in_use = top_used invalid F rest high.2; up = far }, are_up F rest high.2 far)

    -- the frames below keep what they wait with
    pub writes_stay : (image : List ℕ) (y : StackFacts) (rest : List Frame) → AreWaiting y x top rest m → AreHanging image y x top rest
        → AreHigh invalid (top ∷ rest) → AreWaiting y x top rest next
    writes_stay image y rest waiting hanging high =
        stay x invalid m next IsUp Changed kept between image y top rest waiting hanging high (are_up top rest high (omega arith)) owns
