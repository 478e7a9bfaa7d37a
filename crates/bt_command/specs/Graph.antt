-- What each status of the command `graph` says of a call. Its files are those of `bound`.
use Rattle.std.specs.Prelude.{◌≡◌, ℕ, ◌⊎◌, List, Ok}
use Rattle.assert_bind.specs.declared.body.BoundAssertion.{BoundAssertion}
use Rattle.bound_task.specs.Text.{IsGraphTextOf}
use Rattle.bt_command.specs.Call.{Call, Reading, IsWritten, IsCutShort}
use Rattle.bt_command.specs.Files.{Names, HasFiles, AreTold, HasNoFault}
use Rattle.bt_command.specs.Order.{ComeTo, of_files}
use Rattle.bt_command.specs.Program.{RefusesProgram, IsWithinLimits, IsGraphThatHolds}
use Rattle.bt_command.specs.Refusal.{Refuses}
use Rattle.bt_command.specs.declared.status.Status.{Status}
use Rattle.bt_command.specs.declared.status.Status.TheVariants.{Bounded, WriteFault, Want}

-- the text of the command: that of the due graph of the program that the files are
pub record IsGraph (read : Reading) (names : Names) (text : List ℕ) : Type 0 where
  pub image : List ℕ
  pub costs : List ℕ
  pub those : List BoundAssertion
  pub files : HasFiles read names image costs those
  pub graph : IsGraphTextOf image costs those text

-- the table of statuses
abbrev pub GraphSays : Names → Call → Status → Type 0
GraphSays names call Bounded = IsWritten call (IsGraph call.read names)
GraphSays names call (WriteFault written) = IsCutShort call (IsGraph call.read names) written
GraphSays names call status = Refuses names call.read status

-- the graph that was written is the due graph of the program that the files are, and each run of this program that meets the
-- assertions is followed by it up to its first gap
pub record GraphHolds (names : Names) (call : Call) : Type 0 where
  pub image : List ℕ
  pub costs : List ℕ
  pub those : List BoundAssertion
  pub files : HasFiles call.read names image costs those
  pub graph : IsWritten call (IsGraphThatHolds image costs those)

-- with the status of a whole text this is so
abbrev pub GraphShows : Names → Call → Status → Type 0
GraphShows names call Bounded = GraphHolds names call
GraphShows names call status = Unit {0}

-- the status that a program comes to
abbrev pub IsGraphStatus : List ℕ → List ℕ → List BoundAssertion → Status → Type 0
IsGraphStatus image costs those Bounded = (text : List ℕ) × IsGraphTextOf image costs those text
IsGraphStatus image costs those status = RefusesProgram image costs those status

-- where the files are told and no fault rises, a graph comes to what their bytes do, but for want of memory
abbrev pub GraphIsExact : Names → Call → Status → Type 0
GraphIsExact names call status =
    (image table text : List ℕ) → AreTold call.read names image table text → HasNoFault call names
    → (status ≡ Want) ⊎ ComeTo (IsGraphStatus image) (of_files image table text) status

-- where the files are told and accepted, their program is within the limits and no fault rises, the whole text is written, but for
-- want of memory
abbrev pub GraphIsWhole : Names → Call → Status → Type 0
GraphIsWhole names call status =
    (image table text costs : List ℕ) (those : List BoundAssertion) → AreTold call.read names image table text
    → of_files image table text ≡ Ok (record { costs = costs; those = those }) → IsWithinLimits image costs those → HasNoFault call names
    → (status ≡ Bounded) ⊎ (status ≡ Want)
