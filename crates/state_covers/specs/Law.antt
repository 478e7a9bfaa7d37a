-- Laws of what states say: of a greater state, and of what is written to a state and to the cells.
use Rattle.std.specs.Prelude.{◌≡◌, ℕ, ◌%◌, ◌^◌, ◌<◌, true, false, length, ◌||◌, ◌==◌}
use Rattle.abs_state.specs.State.{State, entry_state, is_at_most, with_cell, with_flags, with_value, without}
use Rattle.abs_state.specs.declared.flags.Flags.{Flags as Known}
use Rattle.abs_state.specs.declared.flags.Flags.TheVariants.{Cmp, Res}
use Rattle.abs_state.specs.declared.flags.Right.{Right}
use Rattle.call_effects.specs.Mask.{has_cell}
use Rattle.cell_places.specs.Place.{content_of, with_content}
use Rattle.sparc_machine.specs.Frame.{Frame}
use Rattle.sparc_machine.specs.Machine.{IsMachine, register_of}
use Rattle.sparc_machine.specs.declared.machine.Machine.{Machine}
use Rattle.state_covers.specs.Covers.{AreContents, Covers, FlagsMean, Says, right_in}
use Rattle.value_lattice.specs.Value.{Has}
use Rattle.value_lattice.specs.declared.value.Value.{Value}
use Rattle.word_ops.specs.Condition.{holds_of}
use Rattle.word_ops.specs.Flags.{difference_flags_of}
use Rattle.word_ops.specs.declared.arithmetic.Flags.{Flags}

-- what a machine's cells hold is what cells hold
abbrev pub MachinesHaveContents : Type 0
MachinesHaveContents = (m : Machine) (cwp : ℕ) → IsMachine m → AreContents (content_of m cwp)

-- a state that is at least one that is right is right
abbrev pub GreaterStatesSay : Type 0
GreaterStatesSay =
    (a b : State) (ra : ℕ) (contents : ℕ → ℕ) (f : Flags) → is_at_most a b ≡ true → AreContents contents → ra < 2 ^ 32 → Says a ra contents f
    → Says b ra contents f

-- and covers what that covers
abbrev pub GreaterStatesCover : Type 0
GreaterStatesCover =
    (a b : State) (depth : ℕ) (F : Frame) (m : Machine) → is_at_most a b ≡ true → IsMachine m → F.caller < 2 ^ 32 → Covers a depth F m → Covers b depth F m

-- the state with another value in a cell, and the same said of the condition codes
abbrev pub with_part : State → ℕ → Value → State
with_part s c v = record { cells = with_value s.cells c v; flags = s.flags }

-- what is written to a state that is right
pub record WritesSay : Type 0 where
  -- a cell is written to with a word that the written value has
  pub cell : (s : State) (ra : ℕ) (contents : ℕ → ℕ) (f : Flags) (c w : ℕ) (v : Value) → length s.cells ≡ 48 → Has v w ra → Says s ra contents f
      → Says (with_cell s c v) ra (with_content contents c w) f
  -- another value has the word that a cell holds
  pub value : (s : State) (ra : ℕ) (contents : ℕ → ℕ) (f : Flags) (c : ℕ) (v : Value) → length s.cells ≡ 48 → Has v (contents c) ra → Says s ra contents f
      → Says (with_part s c v) ra contents f
  -- the condition codes are those of something else
  pub flags : (s : State) (ra : ℕ) (contents : ℕ → ℕ) (f next : Flags) (known : Known) → FlagsMean known contents next → Says s ra contents f
      → Says (with_flags s known) ra contents next
  -- cells of a set come to hold any words, and the condition codes change
  pub forgotten : (s : State) (ra mask : ℕ) (old new : ℕ → ℕ) (f next : Flags) → length s.cells ≡ 48 → AreContents new → old 0 ≡ 0
      → ((c : ℕ) → c < 48 → has_cell mask c ≡ false → new c ≡ old c) → Says s ra old f → Says (without s mask) ra new next

-- at the entry of a subprogram r15 has the return address
abbrev pub EntriesSay : Type 0
EntriesSay = (ra : ℕ) (contents : ℕ → ℕ) (f : Flags) → AreContents contents → contents 15 ≡ ra → ra < 2 ^ 32 → Says entry_state ra contents f

-- a frame's first machine is covered by the state of the entry
abbrev pub EntriesCover : Type 0
EntriesCover = (F : Frame) → IsMachine F.start → register_of F.start 15 ≡ F.caller → Covers entry_state 0 F F.start

-- what conditions say of the cells that the flags speak of
pub record ConditionsAreKnown : Type 0 where
  -- those of a comparison are those of the difference of what the two sides hold
  pub compared : (left condition : ℕ) (right : Right) (contents : ℕ → ℕ) (f : Flags) → FlagsMean (Cmp left right) contents f
      → holds_of condition f ≡ holds_of condition (difference_flags_of (contents left) (right_in contents right) false)
  -- the sign and the zero of a result are those of its difference with 0
  pub result : (cell condition : ℕ) (contents : ℕ → ℕ) (f : Flags) → condition < 16 → ((condition % 8 == 1) || (condition % 8 == 6)) ≡ true
      → contents cell < 2 ^ 32 → FlagsMean (Res cell) contents f → holds_of condition f ≡ holds_of condition (difference_flags_of (contents cell) 0 false)
