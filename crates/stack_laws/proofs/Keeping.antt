-- What the frames below the top keep while registers change that the frame on top may write.
use Rattle.std.proofs.Common.{◌≡◌, ℕ, ◌<◌, ◌≤◌, ◌⊎◌, inl, inr, Bool, true, false, List, [], ◌∷◌, refl, sym, subst, ◌∙◌, arith}
use Rattle.call_effects.proofs.CallLemmas.{calls_write_what_stands}
use Rattle.call_effects.proofs.MaskLemmas.{within_has}
use Rattle.call_effects.specs.Mask.{has_cell, StandsIn}
use Rattle.cell_places.proofs.LevelLemmas.{callees_cells_are_callers}
use Rattle.cell_places.specs.Level.{IsCellBetween}
use Rattle.cell_places.specs.Place.{place_of, content_of, window_at}
use Rattle.sparc_machine.specs.Frame.{Frame}
use Rattle.sparc_machine.specs.declared.machine.Machine.{Machine}
use Rattle.sparc_runs.proofs.Levels.{depths}
use Rattle.sparc_runs.specs.High.{AreHigh, frame_level}
use Rattle.sparc_runs.specs.Window.{IsInUse, depth_from}
use Rattle.stack_laws.specs.Standing.{AreHanging, AreWaiting, HandsOn, StackFacts, lent, summary_in}
use Rattle.transfer_rules.specs.Give.{Facts}

-- a register is a cell that a frame may write
pub record IsOwn (x : Facts) (F : Frame) (place : ℕ) : Type 0 where
  pub cell : ℕ
  pub within : cell < 48
  pub is : place_of F.start.cwp cell ≡ place
  pub has : has_cell (summary_in x F.sub).written cell ≡ true

-- a cell of a frame that is a register which the frame that it called may write is one that it lends
pub lends : (x : Facts) (F G : Frame) (k place : ℕ) → F.start.cwp < 8 → G.start.cwp < 8 → depth_from F.start.cwp G.start.cwp < 2 → k < 48
    → place_of F.start.cwp k ≡ place → IsOwn x G place → has_cell (lent x F G) k ≡ true
lends x F G k place f g shallow below is own =
    let depth : ℕ = depth_from F.start.cwp G.start.cwp in
    let window : G.start.cwp ≡ window_at F.start.cwp depth = (depths.is) F.start.cwp G.start.cwp f g in
    let same : place_of (window_at F.start.cwp depth) own.cell ≡ place_of F.start.cwp k =
    subst (λ (w : ℕ). place_of w own.cell ≡ place_of F.start.cwp k) window (own.is ∙ sym is) in
    let caller = callees_cells_are_callers F.start.cwp depth own.cell k f shallow own.within below same in
    let there : StandsIn (summary_in x G.sub).written depth k = record { cell = own.cell; has = own.has; is = caller } in
    (calls_write_what_stands (summary_in x G.sub).written depth k).1 there

-- and then it may write that register itself
pub hands_down : (x : Facts) (F G : Frame) (place : ℕ) → F.start.cwp < 8 → G.start.cwp < 8 → depth_from F.start.cwp G.start.cwp < 2 → HandsOn x F G
    → IsCellBetween F.start.cwp place → IsOwn x G place → IsOwn x F place
hands_down x F G place f g shallow hands between own = record {
  cell = between.cell;
  within = between.within;
  is = between.is;
  has = within_has (lent x F G) (summary_in x F.sub).written hands between.cell (lends x F G between.cell place f g shallow between.within between.is own);
}

-- the window on top of a high stack is in use
pub top_used : (invalid : ℕ) (top : Frame) (rest : List Frame) → AreHigh invalid (top ∷ rest) → IsInUse invalid top.start.cwp
top_used invalid top [] high = high
top_used invalid top (below ∷ rest) high = high.0

-- a truth value isn't both
both : (b : Bool) → b ≡ true → b ≡ false → ⊥
both true e f = cc
both false e f = cc

-- Two machines, and the cells of some frames that may differ between them: each is a register that the top frame may write,
-- and where a frame stands between, a cell of that.
module _
    (x : Facts)
    (invalid : ℕ)
    (old next : Machine)
    (IsSome : Frame → Type 0)
    (Changed : Frame → ℕ → Type 0)
    (kept : (H : Frame) (c : ℕ) → IsSome H → c < 48 → (content_of next H.start.cwp c ≡ content_of old H.start.cwp c) ⊎ Changed H c)
    (between : (G H : Frame) (c : ℕ) → IsSome G → IsSome H → frame_level invalid G ≤ frame_level invalid H → c < 48 → Changed H c
    → IsCellBetween G.start.cwp (place_of H.start.cwp c))
  where
    -- all that changes in frames above a level is a register that a frame may write
    abbrev Owns : Frame → Type 0
    Owns G = (H : Frame) (c : ℕ) → IsSome H → frame_level invalid G ≤ frame_level invalid H → c < 48 → Changed H c → IsOwn x G (place_of H.start.cwp c)

    -- so is each frame of a stack
    abbrev pub AreSome : List Frame → Type 0
    AreSome [] = Unit {0}
    AreSome (F ∷ rest) = IsSome F × AreSome rest

    -- then the frames below keep what they wait with
    pub stay : (image : List ℕ) (y : StackFacts) (G : Frame) (rest : List Frame) → AreWaiting y x G rest old → AreHanging image y x G rest
        → AreHigh invalid (G ∷ rest) → AreSome rest → Owns G → AreWaiting y x G rest next
    stay image y G [] waiting hanging high some owns = tt
    stay image y G (F ∷ rest) waiting hanging high some owns =
        let waits = waiting.0 in
        let used_above : IsInUse invalid G.start.cwp = high.0 in
        let used : IsInUse invalid F.start.cwp = top_used invalid F rest high.2 in
        let rises : frame_level invalid G ≤ frame_level invalid F = high.1 in (
          record {
            state = waits.state;
            is = waits.is;
            called = waits.called;
            shallow = waits.shallow;
            kept = λ c within free. elim (kept F c some.0 within) [
              | inl same ↦ same ∙ waits.kept c within free
              | inr changed ↦
                  absurd
                  (both (has_cell (lent x F G) c)
                  (lends x F G c (place_of F.start.cwp c) used.window used_above.window waits.shallow within refl (owns F c some.0 rises within changed))
                  free)
            ];
          },
          stay image y F rest waiting.1 hanging.1 high.2 some.1
              (λ H c there up within changed.
              hands_down x F G (place_of H.start.cwp c) used.window used_above.window waits.shallow (hanging.0).hands
              (between F H c some.0 there up within changed)
              (owns H c there (omega arith) within changed)),
        )
