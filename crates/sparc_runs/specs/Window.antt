-- Windows in use: one of the eight is marked as invalid, and no step makes it the current one (SPARC Architecture
-- Manual Version 7, "Registers"). Windows are compared by how far above the invalid one they stand, since no run comes
-- round it.
use Rattle.std.specs.Prelude.{◌≡◌, ◌≢◌, ℕ, ◌+◌, ◌-◌, ◌*◌, ◌%◌, ◌^◌, ◌<◌, ◌≤◌, List}
use Rattle.sparc_decode.specs.declared.instruction.Instr.{Instr}
use Rattle.sparc_decode.specs.declared.instruction.Instr.TheVariants.{Save, Restore}
use Rattle.sparc_machine.specs.Frame.{StepsTo}
use Rattle.sparc_machine.specs.Straight.{code_instruction}
use Rattle.sparc_machine.specs.declared.machine.Machine.{Machine}
use Rattle.std.specs.Prelude.{Some}

-- how many windows above the invalid one a window stands, from 0 to 6; for the invalid one itself it is 7
abbrev pub level_above : ℕ → ℕ → ℕ
level_above invalid cwp = (cwp + 7 - invalid) % 8

-- a window is one of the eight, and not the invalid one
pub record IsInUse (invalid cwp : ℕ) : Type 0 where
  pub window : cwp < 8
  pub other : cwp ≢ invalid

-- one window is marked as invalid, and the current one is in use
pub record IsMasked (invalid : ℕ) (m : Machine) : Type 0 where
  pub below : invalid < 8
  pub one : m.wim ≡ 2 ^ invalid
  pub used : IsInUse invalid m.cwp

-- how an instruction moves the level: SAVE goes down by one, RESTORE up by one, and no other changes the window
abbrev pub MovesLevel : ℕ → Instr → Machine → Machine → Type 0
MovesLevel invalid (Save rd rs1 second) m next = level_above invalid next.cwp + 1 ≡ level_above invalid m.cwp
MovesLevel invalid (Restore rd rs1 second) m next = level_above invalid next.cwp ≡ level_above invalid m.cwp + 1
MovesLevel invalid _ m next = next.cwp ≡ m.cwp

-- no step enters the invalid window, or changes which it is
abbrev pub WindowsStayInUse : Type 0
WindowsStayInUse = (image cycles : List ℕ) (m next : Machine) (invalid : ℕ) → IsMasked invalid m → StepsTo image cycles m next → IsMasked invalid next

-- and the level moves with SAVE and RESTORE alone
abbrev pub LevelsMove : Type 0
LevelsMove =
    (image cycles : List ℕ) (m next : Machine) (invalid : ℕ) (i : Instr) → IsMasked invalid m → StepsTo image cycles m next
    → code_instruction image m.pc ≡ Some i → MovesLevel invalid i m next

-- the level of a window in use is from 0 to 6
abbrev pub LevelsAreBelowSeven : Type 0
LevelsAreBelowSeven = (invalid cwp : ℕ) → invalid < 8 → IsInUse invalid cwp → level_above invalid cwp ≤ 6

-- how many windows below the one of its start a frame's machine is
abbrev pub depth_from : ℕ → ℕ → ℕ
depth_from start cwp = (start + 8 - cwp) % 8

-- what a depth is, by the numbers of the windows
pub record DepthsAreWindows : Type 0 where
  -- at its start a frame is at depth 0
  pub start : (cwp : ℕ) → cwp < 8 → depth_from cwp cwp ≡ 0
  -- SAVE makes the depth one more, and RESTORE one less, modulo 8
  pub save : (start cwp : ℕ) → start < 8 → cwp < 8 → depth_from start ((cwp + 7) % 8) ≡ (depth_from start cwp + 1) % 8
  pub restore : (start cwp : ℕ) → start < 8 → cwp < 8 → depth_from start ((cwp + 1) % 8) ≡ (depth_from start cwp + 7) % 8
  -- a depth below 8 is that of the window so far below, and of no other
  pub below : (start cwp depth : ℕ) → start < 8 → cwp < 8 → depth < 8 → cwp ≡ (start + 7 * depth) % 8 → depth_from start cwp ≡ depth
  pub is : (start cwp : ℕ) → start < 8 → cwp < 8 → cwp ≡ (start + 7 * depth_from start cwp) % 8
  -- at depth 0 or 1 the level is so much less
  pub level : (invalid start cwp : ℕ) → invalid < 8 → IsInUse invalid start → IsInUse invalid cwp → depth_from start cwp < 2
      → level_above invalid start ≡ level_above invalid cwp + depth_from start cwp
