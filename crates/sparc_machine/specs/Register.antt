-- Where the registers of a window stand (SPARC Architecture Manual Version 7, "Registers").
use Rattle.std.specs.Prelude.{◌≡◌, ◌≢◌, ℕ, ◌+◌, ◌-◌, ◌*◌, ◌%◌, ◌<◌, ◌≤◌, nat_lt, if◌then◌else◌}

-- the globals first, then sixteen registers for each of eight windows, in a ring
abbrev pub physical_of : ℕ → ℕ → ℕ
physical_of cwp r = if nat_lt r 8 then r else 8 + (16 * cwp + r - 8) % 128

-- two registers of one window never stand at one place
abbrev pub RegistersAreApart : Type 0
RegistersAreApart = (cwp r s : ℕ) → cwp < 8 → r < 32 → s < 32 → r ≢ s → physical_of cwp r ≢ physical_of cwp s

-- the globals of all windows are one
abbrev pub GlobalsAreShared : Type 0
GlobalsAreShared = (cwp other r : ℕ) → r < 8 → physical_of cwp r ≡ physical_of other r

-- the out registers of a window are the in registers of the window below it, which SAVE makes the current one
abbrev pub NeighboursOverlap : Type 0
NeighboursOverlap = (cwp r : ℕ) → cwp < 8 → 8 ≤ r → r < 16 → physical_of cwp r ≡ physical_of ((cwp + 7) % 8) (r + 16)

-- RESTORE behind SAVE comes back to the window, and SAVE behind RESTORE too
abbrev pub WindowsComeBack : Type 0
WindowsComeBack = (cwp : ℕ) → cwp < 8 → (((cwp + 7) % 8 + 1) % 8 ≡ cwp) × (((cwp + 1) % 8 + 7) % 8 ≡ cwp)
