-- Which register each cell of a frame is, and what it holds. A frame's cells are named by the window of its entry, so that
-- SAVE and RESTORE move none of them (SPARC Architecture Manual Version 7, "Registers").
use Rattle.std.specs.Prelude.{◌==◌, ◌≡◌, ◌≢◌, ℕ, ◌+◌, ◌-◌, ◌*◌, ◌%◌, ◌^◌, ◌<◌, ◌&&◌, length, not, nat_lt, slice_index, if◌then◌else◌}
use Rattle.call_effects.specs.Cell.{cell_of}
use Rattle.sparc_machine.specs.Machine.{IsMachine, register_of, with_register}
use Rattle.sparc_machine.specs.Register.{physical_of}
use Rattle.sparc_machine.specs.declared.machine.Machine.{Machine}

-- the window so many windows below another
abbrev pub window_at : ℕ → ℕ → ℕ
window_at cwp depth = (cwp + 7 * depth) % 8

-- the place among a machine's registers of a cell of the frame that was entered in a window: cells below 32 are the
-- registers of that window, and those from 32 on are r8 to r23 of the window below it
abbrev pub place_of : ℕ → ℕ → ℕ
place_of cwp c = if nat_lt c 32 then physical_of cwp c else physical_of (window_at cwp 1) (c - 24)

-- what a cell of the frame that was entered in a window holds; cell 0 is r0, which is always 0
abbrev pub content_of : Machine → ℕ → ℕ → ℕ
content_of m cwp c = if c == 0 then 0 else slice_index m.regs (place_of cwp c)

-- what cells hold, but that one has another content; cell 0 stays
abbrev pub with_content : (ℕ → ℕ) → ℕ → ℕ → ℕ → ℕ
with_content contents c value k = if (k == c) && not (c == 0) then value else contents k

-- the register of a number in the window at depth 0 or 1 is the cell of that register at that depth
abbrev pub RegistersAreCells : Type 0
RegistersAreCells = (cwp depth r : ℕ) → cwp < 8 → depth < 2 → r < 32 → place_of cwp (cell_of depth r) ≡ physical_of (window_at cwp depth) r

-- two cells of a frame are never one register
abbrev pub CellsAreApart : Type 0
CellsAreApart = (cwp c k : ℕ) → cwp < 8 → c < 48 → k < 48 → c ≢ k → place_of cwp c ≢ place_of cwp k

-- a machine is at a depth of the frame that was entered in a window
pub record IsAtDepth (cwp depth : ℕ) (m : Machine) : Type 0 where
  pub window : cwp < 8
  pub shallow : depth < 2
  pub is : m.cwp ≡ window_at cwp depth
  pub size : length m.regs ≡ 136

-- what the registers of a machine at a depth have to do with the contents of cells
pub record RegistersHoldContents : Type 0 where
  -- a register has what its cell holds
  pub read : (cwp depth : ℕ) (m : Machine) (r : ℕ) → IsAtDepth cwp depth m → r < 32 → register_of m r ≡ content_of m cwp (cell_of depth r)
  -- a write of a register changes what its cell holds, and nothing else
  pub written : (cwp depth : ℕ) (m : Machine) (r value c : ℕ) → IsAtDepth cwp depth m → r < 32 → c < 48
      → content_of (with_register m r value) cwp c ≡ with_content (content_of m cwp) (cell_of depth r) value c
  -- what a machine's cells hold are words
  pub words : (cwp : ℕ) (m : Machine) (c : ℕ) → IsMachine m → content_of m cwp c < 2 ^ 32
