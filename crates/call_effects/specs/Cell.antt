-- Cells: the registers that the analysis of one subprogram follows.
use Rattle.std.specs.Prelude.{◌==◌, ◌≡◌, ℕ, ◌+◌, ◌-◌, ◌<◌, ◌||◌, nat_lt, if◌then◌else◌}

-- the cell of a register at a depth: the globals and the entry window's registers have their own numbers, r8 to r23
-- of the window below have 32 to 47, and its r24 to r31 are r8 to r15 of the entry window
abbrev pub cell_of : ℕ → ℕ → ℕ
cell_of depth r = if (depth == 0) || nat_lt r 8 then r else (if nat_lt r 24 then r + 24 else r - 16)

-- registers of one window have cells of their own, which are below 48, and only r0 has cell 0
pub record CellsTellRegistersApart : Type 0 where
  pub within : (depth r : ℕ) → r < 32 → cell_of depth r < 48
  pub zero : (depth r : ℕ) → cell_of depth r ≡ 0 → r ≡ 0
  pub differ : (depth r s : ℕ) → r < 32 → s < 32 → cell_of depth r ≡ cell_of depth s → r ≡ s
