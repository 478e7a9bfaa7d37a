-- States: what is known at a program point, by its cells and flags.
use Rattle.std.specs.Prelude.{◌==◌, ◌≡◌, ℕ, ◌+◌, ◌^◌, ◌<◌, ◌&&◌, Bool, true, false, not, List, [], ◌∷◌, length, map, slice_index_or, slice_set, All}
use Rattle.std.specs.Prelude.{nat_lt, if◌then◌else◌}
use Rattle.std.specs.List.{list_all, range_with_len}
use Rattle.call_effects.specs.Mask.{has_cell}
use Rattle.value_lattice.specs.Height.{are_at_most, heights}
use Rattle.value_lattice.specs.Least.{join, top}
use Rattle.value_lattice.specs.Test.{is_over}
use Rattle.value_lattice.specs.Value.{IsValue, is_ret, is_zero}
use Rattle.value_lattice.specs.declared.value.Value.{Value}
use Rattle.value_lattice.specs.declared.value.Value.TheVariants.{Words, Ret}
use Rattle.abs_state.specs.Flags.{names, joined_flags, flags_at_most, is_unknown}
use Rattle.abs_state.specs.declared.flags.Flags.{Flags}
use Rattle.abs_state.specs.declared.flags.Flags.TheVariants.{Unknown, Cmp, Res}
use Rattle.abs_state.specs.declared.flags.Right.{Right}
use Rattle.abs_state.specs.declared.flags.Right.TheVariants.{Cell, Word}

-- what is known at a program point: a value for each cell, and the flags
pub record State : Type 0 where
  pub cells : List Value
  pub flags : Flags

-- the value at a place of a list of cells
abbrev pub cell_in : List Value → ℕ → Value
cell_in cells c = slice_index_or cells c top

-- the value of a cell
abbrev pub cell_at : State → ℕ → Value
cell_at s c = cell_in s.cells c

-- what each cell is at the entry of a subprogram: r0 is 0, r15 has the return address, and nothing else is known
abbrev pub entry_cell : ℕ → Value
entry_cell c = if c == 0 then Words (0 ∷ []) else (if c == 15 then Ret else top)

unfoldable pub entry_cells : List Value
entry_cells = map entry_cell (range_with_len 0 48)

-- the state at the entry of a subprogram
abbrev pub entry_state : State
entry_state = record { cells = entry_cells; flags = Unknown }

-- a cell may be written, but cell 0 stays
abbrev pub with_value : List Value → ℕ → Value → List Value
with_value cells c v = if c == 0 then cells else slice_set cells c v

-- the state with a cell written: flags that speak of the cell become unknown
abbrev pub with_cell : State → ℕ → Value → State
with_cell s c v = record { cells = with_value s.cells c v; flags = (if names s.flags c then Unknown else s.flags) }

-- the state with other flags
abbrev pub with_flags : State → Flags → State
with_flags s f = record { cells = s.cells; flags = f }

-- a cell of which flags may speak: it isn't the return address, of which another frame has another
abbrev pub may_name : List Value → ℕ → Bool
may_name cells c = nat_lt c 48 && not (is_ret (cell_in cells c))

abbrev pub may_name_right : List Value → Right → Bool
may_name_right cells (Cell r) = may_name cells r
may_name_right cells (Word w) = nat_lt w (2 ^ 32)

-- the flags may speak of these cells
abbrev pub may_speak : List Value → Flags → Bool
may_speak cells Unknown = true
may_speak cells (Cmp left right) = may_name cells left && may_name_right cells right
may_speak cells (Res cell) = may_name cells cell

-- 48 cells with values, cell 0 is 0, and the flags may speak of the cells that they speak of
pub record IsState (s : State) : Type 0 where
  pub size : length s.cells ≡ 48
  pub values : All IsValue s.cells
  pub zero_cell : cell_at s 0 ≡ Words (0 ∷ [])
  pub named : may_speak s.cells s.flags ≡ true

-- whether a state may stand where these are the thresholds: it is one, and its values are over them
abbrev pub is_state_over : List ℕ → State → Bool
is_state_over t s = (length s.cells == 48) && (list_all (is_over t) s.cells && (is_zero (cell_at s 0) && may_speak s.cells s.flags))

-- the values of two lists joined, place by place
abbrev pub joined_cells : List ℕ → List Value → List Value → List Value
joined_cells t [] us = []
joined_cells t (v ∷ vs) [] = []
joined_cells t (v ∷ vs) (u ∷ us) = join t v u ∷ joined_cells t vs us

-- the least state at least both: each cell joined, and the flags where they are the same
abbrev pub joined : List ℕ → State → State → State
joined t a b = record { cells = joined_cells t a.cells b.cells; flags = joined_flags a.flags b.flags }

-- whether a state is at most another: each cell is, and the flags are the same or the other's are unknown
abbrev pub is_at_most : State → State → Bool
is_at_most a b = are_at_most a.cells b.cells && flags_at_most a.flags b.flags

-- the cells of a set are any word, from the cell c on
abbrev pub forgotten_from : ℕ → ℕ → List Value → List Value
forgotten_from mask c [] = []
forgotten_from mask c (v ∷ vs) = (if has_cell mask c then top else v) ∷ forgotten_from mask (c + 1) vs

-- the cells of a set are any word, but cell 0 stays
abbrev pub forgotten : ℕ → List Value → List Value
forgotten mask [] = []
forgotten mask (v ∷ vs) = v ∷ forgotten_from mask 1 vs

-- the state with the cells of a set any word, and nothing known of the condition codes
abbrev pub without : State → ℕ → State
without s mask = record { cells = forgotten mask s.cells; flags = Unknown }

-- how far a state has risen: its heights together, and 1 where nothing is known of the condition codes
abbrev pub rank : List ℕ → State → ℕ
rank t s = heights t s.cells + (if is_unknown s.flags then 1 else 0)
