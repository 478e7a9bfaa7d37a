-- What the condition codes are known to be, and which cells that speaks of.
use Rattle.std.specs.Prelude.{◌==◌, ℕ, ◌&&◌, ◌||◌, Bool, true, false, if◌then◌else◌}
use Rattle.abs_state.specs.declared.flags.Flags.{Flags}
use Rattle.abs_state.specs.declared.flags.Flags.TheVariants.{Unknown, Cmp, Res}
use Rattle.abs_state.specs.declared.flags.Right.{Right}
use Rattle.abs_state.specs.declared.flags.Right.TheVariants.{Cell, Word}

-- whether the right side is this cell
abbrev pub is_right_cell : Right → ℕ → Bool
is_right_cell (Cell r) c = r == c
is_right_cell (Word w) c = false

-- whether the flags speak of a cell
abbrev pub names : Flags → ℕ → Bool
names Unknown c = false
names (Cmp left right) c = (left == c) || is_right_cell right c
names (Res cell) c = cell == c

-- whether two right sides are one
abbrev pub right_eq : Right → Right → Bool
right_eq (Cell r) (Cell s) = r == s
right_eq (Cell r) (Word w) = false
right_eq (Word v) (Cell s) = false
right_eq (Word v) (Word w) = v == w

-- whether the same is known
abbrev pub flags_eq : Flags → Flags → Bool
flags_eq Unknown Unknown = true
flags_eq (Cmp a b) (Cmp c d) = (a == c) && right_eq b d
flags_eq (Res c) (Res d) = c == d
flags_eq _ _ = false

-- nothing is known
abbrev pub is_unknown : Flags → Bool
is_unknown Unknown = true
is_unknown (Cmp left right) = false
is_unknown (Res cell) = false

-- what is known where either is: nothing, unless both are the same
abbrev pub joined_flags : Flags → Flags → Flags
joined_flags f g = if flags_eq f g then f else Unknown

-- whether the one says no less than the other
abbrev pub flags_at_most : Flags → Flags → Bool
flags_at_most f g = flags_eq f g || is_unknown g
