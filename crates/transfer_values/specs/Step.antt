-- The state behind a step.
use Rattle.std.specs.Prelude.{ℕ, Bool, ◌&&◌, List, nat_lt, Option, Some, None, if◌then◌else◌}
use Rattle.std.specs.Option.{option_map, option_and_then}
use Rattle.value_lattice.specs.Least.{top}
use Rattle.value_lattice.specs.Value.{IsValue, is_ret}
use Rattle.value_lattice.specs.declared.value.Value.{Value}
use Rattle.abs_state.specs.State.{State, cell_at, with_cell, with_flags, may_speak}
use Rattle.abs_state.specs.declared.flags.Flags.{Flags}
use Rattle.abs_state.specs.declared.flags.Flags.TheVariants.{Unknown, Cmp, Res}
use Rattle.abs_state.specs.declared.flags.Right.{Right}
use Rattle.abs_state.specs.declared.flags.Right.TheVariants.{Cell, Word}
use Rattle.transfer_rules.specs.declared.step.Step.{Step}
use Rattle.transfer_rules.specs.declared.step.Write.{Write}
use Rattle.transfer_values.specs.Source.{source_value}
use Rattle.transfer_values.specs.declared.stepping.Outcome.{Outcome}
use Rattle.transfer_values.specs.declared.stepping.Outcome.TheVariants.{Stays, Stops, Puts}

-- a cell that can be written: not that of r0
abbrev pub is_writable : ℕ → Bool
is_writable c = nat_lt 0 c && nat_lt c 48

-- the state with a value in a cell, where there is one; what goes to r0 changes nothing
abbrev pub put : ℕ → State → Option Value → Option State
put c s None = None
put c s (Some v) = Some (if is_writable c then with_cell s c v else s)

-- the state behind a write, whose value is that of the state before the step
abbrev pub written : List ℕ → List ℕ → State → Option Write → State → Option State
written t image before None s = Some s
written t image before (Some w) s = put w.cell s (source_value t image before w.source)

-- the same, once the value of the write is known
abbrev pub outcome : Outcome → State → Option State
outcome Stays s = Some s
outcome Stops s = None
outcome (Puts c v) s = put c s (Some v)

abbrev pub PutsValue : Outcome → Type 0
PutsValue Stays = Unit {0}
PutsValue Stops = Unit {0}
PutsValue (Puts c v) = IsValue v

-- where a cell is the return address, it becomes any word: flags can't speak of it
abbrev pub freed : ℕ → State → State
freed c s = if is_ret (cell_at s c) then with_cell s c top else s

abbrev pub freed_right : Right → State → State
freed_right (Cell c) s = freed c s
freed_right (Word n) s = s

-- the state in which flags may speak of the cells that these speak of
abbrev pub freed_for : Flags → State → State
freed_for Unknown s = s
freed_for (Cmp left right) s = freed_right right (freed left s)
freed_for (Res cell) s = freed cell s

-- the state with flags, where they speak of nothing but cells and words
abbrev pub with_spoken : Flags → State → State
with_spoken f s = with_flags s (if may_speak s.cells f then f else Unknown)

-- the state with new flags, where there are some
abbrev pub flagged : Option Flags → State → State
flagged None s = s
flagged (Some f) s = with_spoken f (freed_for f s)

-- The state behind a step: the cells are written, one after the other, with values of the state before; then those of
-- which the new flags speak become any word where they are the return address; then the flags are set. There is none
-- where no run goes on.
unfoldable pub stepped : List ℕ → List ℕ → Step → State → Option State
stepped t image step s = option_map (flagged step.flags) (option_and_then (written t image s step.second) (written t image s step.first s))
