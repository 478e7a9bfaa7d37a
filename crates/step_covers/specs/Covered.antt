-- What a state that covers a machine covers behind a step, and what a run that meets the assertions shows of cells.
use Rattle.std.specs.Prelude.{◌≡◌, ◌≢◌, ℕ, ◌^◌, ◌<◌, ◌⊎◌, Bool, true, false, List, Option, Some, None, Contains, IfSome, slice_index}
use Rattle.abs_state.specs.State.{State, is_state_over, without}
use Rattle.abs_state.specs.declared.key.Place.{Place}
use Rattle.assert_bind.specs.Binding.{listed, never}
use Rattle.assert_bind.specs.Index.{IsSound}
use Rattle.assert_bind.specs.Sight.{MeetsEach}
use Rattle.assert_bind.specs.declared.body.BoundAssertion.{BoundAssertion}
use Rattle.bt_image.specs.Image.{is_code}
use Rattle.call_effects.specs.Mask.{has_cell}
use Rattle.cell_places.specs.Place.{content_of}
use Rattle.sparc_decode.specs.Register.{registers_written}
use Rattle.sparc_decode.specs.declared.instruction.Instr.{Instr}
use Rattle.sparc_machine.specs.Effect.{flags_in}
use Rattle.sparc_machine.specs.Frame.{Frame, StepsTo}
use Rattle.sparc_machine.specs.Machine.{IsMachine, register_of}
use Rattle.sparc_machine.specs.Register.{physical_of}
use Rattle.sparc_machine.specs.Straight.{code_instruction}
use Rattle.sparc_machine.specs.declared.machine.Machine.{Machine}
use Rattle.sparc_runs.specs.Meets.{sight_of}
use Rattle.state_covers.specs.Covers.{Covers}
use Rattle.step_covers.specs.Does.{AimsAt, Does, IsHere}
use Rattle.step_covers.specs.Says.{IsTaken, KeepsRanges}
use Rattle.transfer_rules.specs.Give.{arguments, entered_with}
use Rattle.transfer_rules.specs.declared.act.Aim.{Aim}
use Rattle.transfer_rules.specs.declared.act.Test.{Test}
use Rattle.transfer_rules.specs.declared.act.Way.{Way}
use Rattle.transfer_rules.specs.declared.step.Step.{Step}
use Rattle.transfer_values.specs.Narrow.{narrowed}
use Rattle.transfer_values.specs.Resolve.{resolved}
use Rattle.transfer_values.specs.Step.{stepped}
use Rattle.transfer_values.specs.Test.{tested}
use Rattle.value_lattice.specs.Thresholds.{IsThresholds}

-- a state over thresholds covers a machine in its frame, which was entered by a call
pub record IsCovered (t : List ℕ) (s : State) (depth : ℕ) (F : Frame) (m : Machine) : Type 0 where
  pub thresholds : IsThresholds t
  pub over : is_state_over t s ≡ true
  pub machine : IsMachine m
  pub word : F.caller < 2 ^ 32
  pub covers : Covers s depth F m

-- there is a state, and it covers the machine
abbrev pub IsCoveredSome : List ℕ → Option State → ℕ → Frame → Machine → Type 0
IsCoveredSome t None depth F m = ⊥
IsCoveredSome t (Some s) depth F m = IsCovered t s depth F m

-- a state that covers a machine, stepped by its act, covers the next
abbrev pub SteppedStatesCover : Type 0
SteppedStatesCover =
    (t image : List ℕ) (step : Step) (way : Way) (s : State) (depth : ℕ) (F : Frame) (m next : Machine) → IsCovered t s depth F m → IsMachine next
    → Does image step way F.start.cwp m next → IsCoveredSome t (stepped t image step s) step.depth F next

-- and where a branch takes a direction that the condition codes take, what is left covers it
abbrev pub TestedStatesCover : Type 0
TestedStatesCover =
    (t : List ℕ) (test : Test) (s : State) (depth : ℕ) (F : Frame) (m : Machine) → IsCovered t s depth F m → IsTaken test (flags_in m)
    → IsCoveredSome t (tested t test s) depth F m

-- and what the assertions leave
abbrev pub NarrowedStatesCover : Type 0
NarrowedStatesCover =
    (t : List ℕ) (list : List BoundAssertion) (p : Place) (s : State) (F : Frame) (m : Machine) → IsCovered t s p.depth F m
    → KeepsRanges list p (content_of m F.start.cwp) → IsCoveredSome t (narrowed t list p s) p.depth F m

-- a machine that meets the assertions keeps the ranges at its place, and isn't where none may be
pub record KeepsAssertions (list : List BoundAssertion) (p : Place) (contents : ℕ → ℕ) : Type 0 where
  pub reached : never list p.pc ≡ false
  pub ranges : KeepsRanges list p contents

abbrev pub MetAssertionsAreKept : Type 0
MetAssertionsAreKept =
    (image : List ℕ) (list : List BoundAssertion) (p : Place) (cwp : ℕ) (m : Machine) (taken : Bool) → IsSound list → IsHere image p cwp m
    → MeetsEach list (sight_of image m taken) → KeepsAssertions list p (content_of m cwp)

-- a place of the registers that a step wrote: that of a register which its instruction writes, in the window behind it
pub record IsPlaceWritten (i : Instr) (next : Machine) (place : ℕ) : Type 0 where
  pub register : ℕ
  pub within : register < 32
  pub some : register ≢ 0
  pub writes : Contains (registers_written i) register
  pub is : physical_of next.cwp register ≡ place

-- each other place stays
abbrev pub PlacesAreWritten : Type 0
PlacesAreWritten =
    (image cycles : List ℕ) (m next : Machine) (i : Instr) (place : ℕ) → StepsTo image cycles m next → code_instruction image m.pc ≡ Some i
    → (slice_index next.regs place ≡ slice_index m.regs place) ⊎ IsPlaceWritten i next place

-- the state of a subprogram's entry with the arguments of a call covers the first machine of its frame
abbrev pub EnteredStatesCover : Type 0
EnteredStatesCover =
    (t : List ℕ) (s : State) (depth : ℕ) (F G : Frame) → F.start.cwp < 8 → depth < 2 → IsCovered t s depth F G.start → register_of G.start 15 ≡ G.caller
    → Covers (entered_with (arguments depth s)) 0 G G.start

-- a machine that has come back: the window is that of the call, and each cell that isn't in a set holds what it held
pub record IsSameBut (mask : ℕ) (cwp : ℕ) (old m : Machine) : Type 0 where
  pub window : m.cwp ≡ old.cwp
  pub kept : (c : ℕ) → c < 48 → has_cell mask c ≡ false → content_of m cwp c ≡ content_of old cwp c

-- is covered by the state of the call, in which these cells are any word
abbrev pub ReturnedStatesCover : Type 0
ReturnedStatesCover =
    (t : List ℕ) (s : State) (mask depth : ℕ) (F : Frame) (old m : Machine) → IsCovered t s depth F old → IsMachine m → IsSameBut mask F.start.cwp old m
    → Covers (without s mask) depth F m

-- where a transfer goes nowhere else, its targets have the address to which it goes
abbrev pub AimsAreResolved : Type 0
AimsAreResolved =
    (t image : List ℕ) (list : List BoundAssertion) (pc : ℕ) (aim : Aim) (s : State) (depth : ℕ) (F : Frame) (m : Machine) (target : ℕ)
    → IsCovered t s depth F m → AimsAt aim (content_of m F.start.cwp) target
    → IfSome (listed list pc) (λ to. Contains to target × (is_code image target ≡ true))
    → (resolved t image list pc aim s).whole ≡ true → Contains (resolved t image list pc aim s).list target
