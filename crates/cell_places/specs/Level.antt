-- How high cells stand above the invalid window. Places of registers are counted round a ring of eight windows; heights
-- aren't, so frames of a stack are compared by them.
use Rattle.std.specs.Prelude.{◌≡◌, ℕ, ◌+◌, ◌-◌, ◌*◌, ◌%◌, ◌<◌, ◌≤◌, nat_lt, if◌then◌else◌, Some}
use Rattle.call_effects.specs.Mask.{caller_cell}
use Rattle.cell_places.specs.Place.{window_at, place_of}
use Rattle.sparc_machine.specs.Register.{physical_of}
use Rattle.sparc_runs.specs.Window.{IsInUse, level_above}

-- how many registers above the lowest cell of its frame a cell from 8 on stands
abbrev pub height_of : ℕ → ℕ
height_of c = if nat_lt c 32 then c + 8 else c - 32

-- and above the registers that the invalid window shares with none above it, where its frame was entered at a level
abbrev pub altitude_of : ℕ → ℕ → ℕ
altitude_of level c = 16 * level + height_of c

-- the place of a cell that is no global is its altitude, counted from the invalid window and round the ring
abbrev pub PlacesAreAltitudes : Type 0
PlacesAreAltitudes =
    (invalid cwp c : ℕ) → invalid < 8 → cwp < 8 → 8 ≤ c → c < 48
    → place_of cwp c ≡ 8 + (16 * invalid + altitude_of (level_above invalid cwp) c) % 128

-- a cell of a frame that a call entered at depth 0 or 1, and a cell of the caller, which are one register: the caller's is
-- the one that stands for the callee's
abbrev pub CalleesCellsAreCallers : Type 0
CalleesCellsAreCallers =
    (cwp depth c k : ℕ) → cwp < 8 → depth < 2 → c < 48 → k < 48 → place_of (window_at cwp depth) c ≡ place_of cwp k → caller_cell depth c ≡ Some k

-- the windows of three frames of a stack, and a register of a window in use of the lowest of them
pub record IsReached (invalid low middle high depth r : ℕ) : Type 0 where
  pub invalid_window : invalid < 8
  pub low_used : IsInUse invalid low
  pub middle_used : IsInUse invalid middle
  pub high_used : IsInUse invalid high
  pub rises : level_above invalid low ≤ level_above invalid middle
  pub further : level_above invalid middle ≤ level_above invalid high
  pub shallow : depth < 2
  pub here : IsInUse invalid (window_at low depth)
  pub above : level_above invalid (window_at low depth) ≤ level_above invalid low
  pub register : r < 32

-- a register that a frame of a stack may write, and that is a cell of a frame above, is a cell of each frame between them
pub record IsCellBetween (middle place : ℕ) : Type 0 where
  pub cell : ℕ
  pub within : cell < 48
  pub is : place_of middle cell ≡ place

abbrev pub CellsAreBetween : Type 0
CellsAreBetween =
    (invalid low middle high depth r k : ℕ) → IsReached invalid low middle high depth r → k < 48
    → place_of high k ≡ physical_of (window_at low depth) r → IsCellBetween middle (physical_of (window_at low depth) r)
