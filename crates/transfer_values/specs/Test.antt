-- What is left of a state where a branch takes a direction.
use Rattle.std.specs.Prelude.{◌==◌, ℕ, ◌%◌, Bool, ◌||◌, List, [], ◌∷◌, Option, Some, None, if◌then◌else◌}
use Rattle.std.specs.Option.{option_and_then}
use Rattle.value_lattice.specs.declared.value.Value.{Value}
use Rattle.value_lattice.specs.declared.value.Value.TheVariants.{Words}
use Rattle.value_refine.specs.Refinement.{refine, mirror_of}
use Rattle.abs_state.specs.State.{State, cell_at, with_value}
use Rattle.abs_state.specs.declared.flags.Flags.{Flags}
use Rattle.abs_state.specs.declared.flags.Flags.TheVariants.{Unknown, Cmp, Res}
use Rattle.abs_state.specs.declared.flags.Right.{Right}
use Rattle.abs_state.specs.declared.flags.Right.TheVariants.{Cell, Word}
use Rattle.transfer_rules.specs.declared.act.Test.{Test}
use Rattle.transfer_rules.specs.declared.act.Test.TheVariants.{Always, When}
use Rattle.transfer_values.specs.Source.{operand}

-- the state where less is left of a cell: its content is what it was, and so the flags stay
abbrev pub with_part : State → ℕ → Value → State
with_part s c v = record { cells = with_value s.cells c v; flags = s.flags }

-- the same, where anything is left
abbrev pub left_with : ℕ → State → Option Value → Option State
left_with c s None = None
left_with c s (Some v) = Some (with_part s c v)

-- the conditions that the sign and the zero of a result decide: e, ne, neg and pos
abbrev pub asks_result : ℕ → Bool
asks_result condition = (condition % 8 == 1) || (condition % 8 == 6)

-- conditions that say nothing of the right side
abbrev pub spares_right : ℕ → Bool
spares_right condition = mirror_of condition == 8

-- what is left once the right cell of a comparison is refined too, unless it is the left one
abbrev pub with_right : List ℕ → ℕ → Bool → State → ℕ → Right → State → Option State
with_right t condition truth before left (Word n) s = Some s
with_right t condition truth before left (Cell c) s =
    if spares_right condition || (c == left) then Some s
    else left_with c s (refine t (mirror_of condition) truth (cell_at before c) (cell_at before left))

-- what is left of a state where a condition over these flags is true, or is false; each side is refined by the values before
abbrev pub refined : List ℕ → ℕ → Bool → State → Flags → Option State
refined t condition truth s Unknown = Some s
refined t condition truth s (Cmp left right) =
    option_and_then (with_right t condition truth s left right) (left_with left s (refine t condition truth (cell_at s left) (operand s right)))
refined t condition truth s (Res cell) =
    if asks_result condition then left_with cell s (refine t condition truth (cell_at s cell) (Words (0 ∷ []))) else Some s

-- what is left of a state where a branch takes a direction; none where no run takes it. A condition has four bits
unfoldable pub tested : List ℕ → Test → State → Option State
tested t Always s = Some s
tested t (When condition truth) s = refined t (condition % 16) truth s s.flags
