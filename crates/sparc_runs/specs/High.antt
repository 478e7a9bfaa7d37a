-- Stacks whose windows lie in order: none is the invalid one, and their levels rise down the stack to the root's.
use Rattle.std.specs.Prelude.{◌≡◌, ℕ, ◌+◌, ◌-◌, ◌%◌, ◌<◌, ◌≤◌, List, [], ◌∷◌, Contains}
use Rattle.sparc_machine.specs.Frame.{Frame, Calls, frames_after}
use Rattle.sparc_machine.specs.declared.machine.Machine.{Machine}
use Rattle.sparc_runs.specs.Window.{IsInUse, IsMasked, level_above, depth_from}

-- the level of a frame's window
abbrev pub frame_level : ℕ → Frame → ℕ
frame_level invalid F = level_above invalid F.start.cwp

-- the windows of a stack are in use, and none is above one further down
abbrev pub AreHigh : ℕ → List Frame → Type 0
AreHigh invalid [] = Unit {0}
AreHigh invalid (root ∷ []) = IsInUse invalid root.start.cwp
AreHigh invalid (top ∷ below ∷ rest) = IsInUse invalid top.start.cwp × (frame_level invalid top ≤ frame_level invalid below) × AreHigh invalid (below ∷ rest)

-- the window of the last frame of a stack
abbrev pub root_window : Frame → List Frame → ℕ
root_window top [] = top.start.cwp
root_window top (below ∷ rest) = root_window below rest

-- a push at depth 0 or 1 of the frame on top keeps a stack high
abbrev pub PushesKeepHigh : Type 0
PushesKeepHigh =
    (invalid target address : ℕ) (m : Machine) (top : Frame) (rest : List Frame) → IsMasked invalid m → AreHigh invalid (top ∷ rest)
    → depth_from top.start.cwp m.cwp < 2 → AreHigh invalid (frames_after (Calls target address) m (top ∷ rest))

-- in a high stack each frame stands above the one on top by the difference of their levels, and the root's farthest
pub record IsAbove (invalid : ℕ) (top : Frame) (root : ℕ) (G : Frame) : Type 0 where
  pub window : G.start.cwp ≡ (top.start.cwp + (frame_level invalid G - frame_level invalid top)) % 8
  pub least : frame_level invalid top ≤ frame_level invalid G
  pub most : frame_level invalid G - frame_level invalid top ≤ depth_from root top.start.cwp

abbrev pub HighFramesAreAbove : Type 0
HighFramesAreAbove =
    (invalid : ℕ) (top : Frame) (rest : List Frame) → invalid < 8 → AreHigh invalid (top ∷ rest)
    → (G : Frame) → Contains (top ∷ rest) G → IsAbove invalid top (root_window top rest) G
