-- Sets of cells, as numbers whose bit c stands for cell c.
use Rattle.std.specs.Prelude.{◌==◌, ◌≡◌, ◌≢◌, ℕ, ◌+◌, ◌-◌, ◌*◌, ◌/◌, ◌%◌, ◌^◌, ◌<◌, ◌≤◌, ◌&&◌, ◌||◌, ◌↔◌, Bool, true, Option, Some, None, bit_or}
use Rattle.std.specs.Prelude.{nat_lt, if◌then◌else◌}
use Rattle.std.specs.Int.{bit_at}
use Rattle.call_effects.specs.Cell.{cell_of}

-- a set of cells from 1 to 47
pub record IsMask (mask : ℕ) : Type 0 where
  pub below : mask < 2 ^ 48
  pub even : mask % 2 ≡ 0

-- whether a number is a set of cells from 1 to 47
abbrev pub is_mask : ℕ → Bool
is_mask mask = nat_lt mask (2 ^ 48) && (mask % 2 == 0)

-- the test decides what is a set of cells
abbrev pub TestDecidesMasks : Type 0
TestDecidesMasks = (mask : ℕ) → (is_mask mask ≡ true) ↔ IsMask mask

-- whether a cell is in the set
abbrev pub has_cell : ℕ → ℕ → Bool
has_cell mask c = bit_at mask c == 1

-- the set with one cell more
abbrev pub with_cell : ℕ → ℕ → ℕ
with_cell mask c = bit_or mask (2 ^ c)

-- the cells of both sets
abbrev pub union : ℕ → ℕ → ℕ
union a b = bit_or a b

-- whether each cell of the one set is in the other: then the other has all cells of both
abbrev pub is_within : ℕ → ℕ → Bool
is_within a b = bit_or a b == b

-- the caller's cell that is a callee's cell, where the call is at a depth: a callee's cells below 32 are registers of
-- the caller's window at that depth, and those from 32 on stand below it
abbrev pub caller_cell : ℕ → ℕ → Option ℕ
caller_cell depth c = if nat_lt c 32 then Some (cell_of depth c) else (if depth == 0 then Some c else None)

-- a cell of the set is this cell of the caller
pub record StandsIn (mask depth k : ℕ) : Type 0 where
  pub cell : ℕ
  pub has : has_cell mask cell ≡ true
  pub is : caller_cell depth cell ≡ Some k

-- the caller's cells that a callee with this mask may write: at depth 0 the same cells; at depth 1 the globals stay,
-- the callee's in registers are the caller's out registers, and its out and local registers the caller's of depth 1
abbrev pub after_call : ℕ → ℕ → ℕ
after_call mask depth = if depth == 0 then mask else mask % 2 ^ 8 + (mask / 2 ^ 24 % 2 ^ 8) * 2 ^ 8 + (mask / 2 ^ 8 % 2 ^ 16) * 2 ^ 32

-- masks are sets of cells from 1 to 47
pub record MasksAreSets : Type 0 where
  pub none : (c : ℕ) → has_cell 0 c ≢ true
  pub cells : (mask c : ℕ) → IsMask mask → has_cell mask c ≡ true → (1 ≤ c) × (c < 48)
  pub with_one : (mask c k : ℕ) → has_cell (with_cell mask c) k ≡ (has_cell mask k || (k == c))
  pub union : (a b k : ℕ) → has_cell (union a b) k ≡ (has_cell a k || has_cell b k)
  pub within : (a b : ℕ) → (is_within a b ≡ true) ↔ ((k : ℕ) → has_cell a k ≡ true → has_cell b k ≡ true)
  pub same : (a b : ℕ) → ((k : ℕ) → has_cell a k ≡ has_cell b k) → a ≡ b
  pub rises : (a b : ℕ) → is_within a b ≡ true → a ≢ b → a < b

-- what is made of masks is one
pub record MasksStayMasks : Type 0 where
  pub none : IsMask 0
  pub with_one : (mask c : ℕ) → IsMask mask → 1 ≤ c → c < 48 → IsMask (with_cell mask c)
  pub union : (a b : ℕ) → IsMask a → IsMask b → IsMask (union a b)
  pub after_call : (mask depth : ℕ) → IsMask mask → IsMask (after_call mask depth)

-- the caller's cells that a call may write are those that are cells of the callee's mask
abbrev pub CallsWriteWhatStands : Type 0
CallsWriteWhatStands =
    (mask depth k : ℕ) → (has_cell (after_call mask depth) k ≡ true) ↔ StandsIn mask depth k

-- a callee that may write more may write more of its caller
abbrev pub LargerMasksWriteMore : Type 0
LargerMasksWriteMore =
    (a b depth : ℕ) → is_within a b ≡ true → is_within (after_call a depth) (after_call b depth) ≡ true
