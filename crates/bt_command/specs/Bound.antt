-- What each status of the command `bound` says of a call.
use Rattle.std.specs.Prelude.{◌≡◌, ℕ, ◌⊎◌, Bool, true, false, List, Ok}
use Rattle.assert_bind.specs.declared.body.BoundAssertion.{BoundAssertion}
use Rattle.bound_task.specs.Outcomes.{AreOutcomesOf}
use Rattle.bt_command.specs.Call.{Call, Reading, IsWritten, IsCutShort}
use Rattle.bt_command.specs.Files.{Names, HasFiles, AreTold, HasNoFault}
use Rattle.bt_command.specs.Order.{ComeTo, of_files}
use Rattle.bt_command.specs.Program.{RefusesProgram, IsWithinLimits, IsReportOf, IsReportThatHolds, all_bounded}
use Rattle.bt_command.specs.Refusal.{Refuses}
use Rattle.bt_command.specs.declared.status.Status.{Status}
use Rattle.bt_command.specs.declared.status.Status.TheVariants.{Bounded, Unbounded, WriteFault, Want}
use Rattle.wcet_report.specs.declared.outcome.Outcomes.{Outcomes}

-- the text of the command: the report of the program that the files are, in which each root has a bound, or some root has none
pub record IsBoundText (read : Reading) (names : Names) (bounded : Bool) (text : List ℕ) : Type 0 where
  pub image : List ℕ
  pub costs : List ℕ
  pub those : List BoundAssertion
  pub files : HasFiles read names image costs those
  pub report : IsReportOf image costs those bounded text

-- the table of statuses
abbrev pub BoundSays : Names → Call → Status → Type 0
BoundSays names call Bounded = IsWritten call (IsBoundText call.read names true)
BoundSays names call Unbounded = IsWritten call (IsBoundText call.read names false)
BoundSays names call (WriteFault written) = (bounded : Bool) × IsCutShort call (IsBoundText call.read names bounded) written
BoundSays names call status = Refuses names call.read status

-- the report that was written is that of the program that the files are, and what it says holds of all runs of this program that
-- meet the assertions
pub record BoundHolds (names : Names) (call : Call) : Type 0 where
  pub image : List ℕ
  pub costs : List ℕ
  pub those : List BoundAssertion
  pub files : HasFiles call.read names image costs those
  pub report : IsWritten call (IsReportThatHolds image costs those)

-- with the status of a whole text this is so
abbrev pub BoundShows : Names → Call → Status → Type 0
BoundShows names call Bounded = BoundHolds names call
BoundShows names call Unbounded = BoundHolds names call
BoundShows names call status = Unit {0}

-- a program has outcomes in which each root has a bound, or in which some root has none
pub record HasOutcomes (image costs : List ℕ) (those : List BoundAssertion) (bounded : Bool) : Type 0 where
  pub outcomes : Outcomes
  pub are : AreOutcomesOf image costs those outcomes
  pub roots : all_bounded outcomes ≡ bounded

-- the status that a program comes to
abbrev pub IsBoundStatus : List ℕ → List ℕ → List BoundAssertion → Status → Type 0
IsBoundStatus image costs those Bounded = HasOutcomes image costs those true
IsBoundStatus image costs those Unbounded = HasOutcomes image costs those false
IsBoundStatus image costs those status = RefusesProgram image costs those status

-- where the files are told and no fault rises, a bound comes to what their bytes do, but for want of memory
abbrev pub BoundIsExact : Names → Call → Status → Type 0
BoundIsExact names call status =
    (image table text : List ℕ) → AreTold call.read names image table text → HasNoFault call names
    → (status ≡ Want) ⊎ ComeTo (IsBoundStatus image) (of_files image table text) status

-- where the files are told and accepted, their program is within the limits and no fault rises, the whole report is written, but
-- for want of memory
abbrev pub BoundIsWhole : Names → Call → Status → Type 0
BoundIsWhole names call status =
    (image table text costs : List ℕ) (those : List BoundAssertion) → AreTold call.read names image table text
    → of_files image table text ≡ Ok (record { costs = costs; those = those }) → IsWithinLimits image costs those → HasNoFault call names
    → (status ≡ Bounded) ⊎ ((status ≡ Unbounded) ⊎ (status ≡ Want))
