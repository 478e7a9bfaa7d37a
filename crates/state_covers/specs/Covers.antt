-- What a state says of a machine: what each cell of the frame on top holds, and what the condition codes are those of.
use Rattle.std.specs.Prelude.{◌==◌, ◌≡◌, ℕ, ◌^◌, ◌<◌, false, nat_le}
use Rattle.abs_state.specs.State.{State, cell_at}
use Rattle.abs_state.specs.declared.flags.Flags.{Flags as Known}
use Rattle.abs_state.specs.declared.flags.Flags.TheVariants.{Unknown, Cmp, Res}
use Rattle.abs_state.specs.declared.flags.Right.{Right}
use Rattle.abs_state.specs.declared.flags.Right.TheVariants.{Cell, Word}
use Rattle.cell_places.specs.Place.{window_at, content_of}
use Rattle.sparc_machine.specs.Effect.{flags_in}
use Rattle.sparc_machine.specs.Frame.{Frame}
use Rattle.sparc_machine.specs.declared.machine.Machine.{Machine}
use Rattle.value_lattice.specs.Value.{Has}
use Rattle.word_ops.specs.Flags.{difference_flags_of}
use Rattle.word_ops.specs.declared.arithmetic.Flags.{Flags}

-- what the right side of a comparison comes to, where the cells hold these words
abbrev pub right_in : (ℕ → ℕ) → Right → ℕ
right_in contents (Cell c) = contents c
right_in contents (Word w) = w

-- N and Z are those of a word
pub record ShowsWord (word : ℕ) (f : Flags) : Type 0 where
  pub negative : f.n ≡ nat_le (2 ^ 31) word
  pub zero : f.z ≡ (word == 0)

-- the condition codes are what is known of them: those of the difference of the present contents of two cells, or of a
-- cell and a word; N and Z those of the present content of a cell; or anything
abbrev pub FlagsMean : Known → (ℕ → ℕ) → Flags → Type 0
FlagsMean Unknown contents f = Unit {0}
FlagsMean (Cmp left right) contents f = f ≡ difference_flags_of (contents left) (right_in contents right) false
FlagsMean (Res cell) contents f = ShowsWord (contents cell) f

-- a state is right about what cells hold and about condition codes, in a frame with this return address
pub record Says (s : State) (ra : ℕ) (contents : ℕ → ℕ) (f : Flags) : Type 0 where
  pub cells : (c : ℕ) → c < 48 → Has (cell_at s c) (contents c) ra
  pub flags : FlagsMean s.flags contents f

-- a state at a depth covers a machine in whose frame it stands: the machine's window is so far below the one of the
-- frame's start, and the state is right about the cells of the frame and about the condition codes
pub record Covers (s : State) (depth : ℕ) (F : Frame) (m : Machine) : Type 0 where
  pub window : m.cwp ≡ window_at F.start.cwp depth
  pub says : Says s F.caller (content_of m F.start.cwp) (flags_in m)

-- what cells hold: words, and 0 in cell 0
pub record AreContents (contents : ℕ → ℕ) : Type 0 where
  pub words : (c : ℕ) → c < 48 → contents c < 2 ^ 32
  pub zero_cell : contents 0 ≡ 0
