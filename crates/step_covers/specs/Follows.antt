-- What a step of the analysis stands for: what cells hold and what the condition codes are behind it, where they were
-- others before it.
use Rattle.std.specs.Prelude.{◌≡◌, ℕ, ◌%◌, ◌^◌, ◌<◌, Bool, false, List, Option, Some, None}
use Rattle.abs_state.specs.declared.flags.Flags.{Flags as Known}
use Rattle.abs_state.specs.declared.flags.Right.{Right}
use Rattle.abs_state.specs.declared.flags.Right.TheVariants.{Cell, Word}
use Rattle.bt_image.specs.Image.{word}
use Rattle.cell_places.specs.Place.{window_at, content_of, with_content}
use Rattle.sparc_machine.specs.Effect.{flags_in}
use Rattle.sparc_machine.specs.declared.machine.Machine.{Machine}
use Rattle.state_covers.specs.Covers.{FlagsMean}
use Rattle.transfer_rules.specs.declared.step.Source.{Source}
use Rattle.transfer_rules.specs.declared.step.Source.TheVariants.{Anything, Exactly, Ranged, Applied, Loaded}
use Rattle.transfer_rules.specs.declared.step.Step.{Step}
use Rattle.transfer_rules.specs.declared.step.Write.{Write}
use Rattle.value_lattice.specs.Order.{rank_of}
use Rattle.value_lattice.specs.Value.{IsBetween}
use Rattle.value_ops.specs.Operation.{result_of}
use Rattle.value_ops.specs.declared.op.Op.{Op}
use Rattle.word_ops.specs.Word.{sum_of}
use Rattle.word_ops.specs.declared.arithmetic.Flags.{Flags}

-- an operand comes to a word, where the cells hold these: what a cell holds, or a number
abbrev pub IsOperandIn : (ℕ → ℕ) → Right → ℕ → Type 0
IsOperandIn contents (Cell c) w = (c < 48) × (w ≡ contents c)
IsOperandIn contents (Word n) w = w ≡ n % 2 ^ 32

-- a word is the result of an operation on what two operands come to, with some carry
pub record IsResult (contents : ℕ → ℕ) (op : Op) (left right : Right) (w : ℕ) : Type 0 where
  pub first : ℕ
  pub second : ℕ
  pub carry : Bool
  pub is_first : IsOperandIn contents left first
  pub is_second : IsOperandIn contents right second
  pub is : w ≡ result_of op carry first second

-- a word is what is read at the sum of two operands, a multiple of 4: the word of the image there, where one can be read
pub record IsReadAt (image : List ℕ) (contents : ℕ → ℕ) (left right : Right) (w : ℕ) : Type 0 where
  pub first : ℕ
  pub second : ℕ
  pub is_first : IsOperandIn contents left first
  pub is_second : IsOperandIn contents right second
  pub aligned : sum_of first second false % 4 ≡ 0
  pub read : (v : ℕ) → word image (sum_of first second false) ≡ Some v → w ≡ v

-- a source may give a word, over an image and where the cells hold these
abbrev pub MayGive : List ℕ → (ℕ → ℕ) → Source → ℕ → Type 0
MayGive image contents Anything w = w < 2 ^ 32
MayGive image contents (Exactly n) w = w ≡ n % 2 ^ 32
MayGive image contents (Ranged lo hi) w = IsBetween (rank_of lo) (rank_of hi) w
MayGive image contents (Applied op left right) w = IsResult contents op left right w
MayGive image contents (Loaded left right) w = IsReadAt image contents left right w

-- a source gives a word
pub record Gives (image : List ℕ) (contents : ℕ → ℕ) (source : Source) (w : ℕ) : Type 0 where
  pub word : w < 2 ^ 32
  pub may : MayGive image contents source w

-- what is written, if anything is, is a word that its source gives
abbrev pub GivesTo : List ℕ → (ℕ → ℕ) → Option Write → ℕ → Type 0
GivesTo image contents None w = Unit {0}
GivesTo image contents (Some write) w = Gives image contents write.source w

-- what cells hold behind a write
abbrev pub wrote : Option Write → ℕ → (ℕ → ℕ) → ℕ → ℕ
wrote None w contents = contents
wrote (Some write) w contents = with_content contents write.cell w

-- the condition codes stay, or are what is then known of them
abbrev pub FlagsFollow : Option Known → (ℕ → ℕ) → Flags → Flags → Type 0
FlagsFollow None new f next = next ≡ f
FlagsFollow (Some known) new f next = FlagsMean known new next

-- cells and condition codes follow others by a step: each write gives a word that its source gives of what stood before the
-- step, and the cells hold those
pub record Follows (image : List ℕ) (step : Step) (old : ℕ → ℕ) (f : Flags) (new : ℕ → ℕ) (next : Flags) : Type 0 where
  pub first : ℕ
  pub second : ℕ
  pub gives_first : GivesTo image old step.first first
  pub gives_second : GivesTo image old step.second second
  pub contents : (c : ℕ) → c < 48 → new c ≡ wrote step.second second (wrote step.first first old) c
  pub flags : FlagsFollow step.flags new f next

-- a machine follows another by a step, as the cells of the frame that was entered in a window, which a step doesn't move
pub record FollowsIn (image : List ℕ) (step : Step) (cwp : ℕ) (m next : Machine) : Type 0 where
  pub window : next.cwp ≡ window_at cwp step.depth
  pub follows : Follows image step (content_of m cwp) (flags_in m) (content_of next cwp) (flags_in next)
