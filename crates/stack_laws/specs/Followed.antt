-- What holds at each place of a run, and how each step is followed: by an edge, by a call, or by a return behind one.
use Rattle.std.specs.Prelude.{◌≡◌, ℕ, suc, ◌+◌, ◌%◌, ◌^◌, ◌<◌, ◌≤◌, ◌⊎◌, Bool, true, false, List, [], ◌∷◌, ◌++◌, length, Some, is_some}
use Rattle.abs_state.specs.declared.key.Key.TheVariants as key
use Rattle.assert_bind.specs.Binding.{stub}
use Rattle.assert_bind.specs.Sight.{MeetsEach}
use Rattle.assert_bind.specs.declared.body.BoundAssertion.{BoundAssertion}
use Rattle.sparc_machine.specs.Frame.{Frame, Transfer, Stays, Calls, Returns, Config, RunsFrom, BeginsAt, config_at, root_frame, machine_at}
use Rattle.sparc_machine.specs.declared.machine.Machine.{Machine}
use Rattle.sparc_runs.specs.High.{AreHigh}
use Rattle.sparc_runs.specs.Meets.{KeepsStubs, sight_at}
use Rattle.sparc_runs.specs.Running.{IsRunning}
use Rattle.sparc_runs.specs.Sound.{AreBytes}
use Rattle.stack_laws.specs.Standing.{AreHanging, AreWaiting, IsKept, Stands, StackFacts, comes_back, behind_by, place_of, waiting_place, summary_in}
use Rattle.stack_laws.specs.StepFacts.{AreEntered, ArePlain, PassesNothingOver, HasNoGap, StepFacts, is_stub}
use Rattle.transfer_rules.specs.Give.{Facts}

-- a machine without a stub's frame: it stands in the frame on top, and each frame below waits
pub record IsClear (image : List ℕ) (list : List BoundAssertion) (y : StackFacts) (x : Facts) (invalid : ℕ) (due : Transfer) (top : Frame)
    (rest : List Frame) (m : Machine) : Type 0 where
  pub plain : ArePlain list (top ∷ rest)
  pub entered : AreEntered invalid (top ∷ rest)
  pub stands : Stands image (y (top ∷ rest)) due top m
  pub waiting : AreWaiting y x top rest m
  pub hanging : AreHanging image y x top rest
  pub high : AreHigh invalid (top ∷ rest)

-- a machine with a stub's frame, the lowest of which was pushed on frames that have waited since
pub record IsBeneath (image : List ℕ) (list : List BoundAssertion) (y : StackFacts) (x : Facts) (invalid : ℕ) (frames : List Frame) : Type 0 where
  pub inner : List Frame
  pub lowest : Frame
  pub below : Frame
  pub rest : List Frame
  pub are : frames ≡ inner ++ lowest ∷ below ∷ rest
  pub stub : is_stub list lowest.sub ≡ true
  pub plain : ArePlain list (below ∷ rest)
  pub entered : AreEntered invalid (below ∷ rest)
  pub waiting : AreWaiting y x lowest (below ∷ rest) lowest.start
  pub hanging : AreHanging image y x lowest (below ∷ rest)
  pub high : AreHigh invalid (lowest ∷ below ∷ rest)

-- what holds at each machine of a run; once the root's frame is popped nothing is said
abbrev pub Holds : List ℕ → List BoundAssertion → StackFacts → Facts → ℕ → Transfer → List Frame → Machine → Type 0
Holds image list y x invalid due [] m = Unit {0}
Holds image list y x invalid due (top ∷ rest) m = IsClear image list y x invalid due top rest m ⊎ IsBeneath image list y x invalid (top ∷ rest)

-- a pop lands behind the call of the frame, in the window of its push
pub record Lands (x : Facts) (G : Frame) (next : Machine) : Type 0 where
  pub skip : Bool
  pub comes : comes_back (summary_in x G.sub) skip ≡ true
  pub pc : next.pc ≡ (G.caller + behind_by skip) % 2 ^ 32
  pub npc : next.npc ≡ (G.caller + behind_by skip + 4) % 2 ^ 32
  pub window : next.cwp ≡ G.start.cwp

-- And it goes on along an edge from where the caller waited, if there is a caller, whose other cells hold there what they held
-- when the frame was pushed.
abbrev pub GoesBack : StackFacts → Facts → Frame → List Frame → Machine → Type 0
GoesBack y x G [] next = Unit {0}
GoesBack y x G (F ∷ rest) next = (is_some (y (F ∷ rest) (key.Edge (waiting_place F G) (place_of Stays F next))) ≡ true) × IsKept x F G next

-- How a step is followed: along an edge, by a call, or back behind one. The delay instruction of a call or a return passes
-- nothing over.
abbrev pub IsFollowed : List ℕ → StackFacts → Facts → Transfer → Transfer → Frame → List Frame → Machine → Machine → Type 0
IsFollowed image y x Stays after top rest m next = is_some (y (top ∷ rest) (key.Edge (place_of Stays top m) (place_of after top next))) ≡ true
IsFollowed image y x (Calls target address) after top rest m next =
    (is_some (y (top ∷ rest) (key.Call (place_of (Calls target address) top m) target)) ≡ true)
    × (next.pc ≡ target) × (next.npc ≡ (target + 4) % 2 ^ 32) × (after ≡ Stays) × PassesNothingOver image m next
IsFollowed image y x Returns after top rest m next = Lands x top next × GoesBack y x top rest next × (after ≡ Stays) × PassesNothingOver image m next

-- so is each step from a machine without a stub's frame; of a step in a stub's frame only this is said, that where it
-- pops the lowest one it goes back
pub record IsStepFollowed (image : List ℕ) (list : List BoundAssertion) (y : StackFacts) (x : Facts) (c next : Config) (top : Frame)
    (rest : List Frame) : Type 0 where
  pub plain : ArePlain list (top ∷ rest) → IsFollowed image y x c.due next.due top rest c.machine next.machine
  pub stub : is_stub list top.sub ≡ true → ArePlain list rest → c.due ≡ Returns
      → Lands x top next.machine × GoesBack y x top rest next.machine × (next.due ≡ Stays)

-- no machine of a run before a place stands at a gap in a frame that is looked into
abbrev pub IsBeforeGaps : List ℕ → List BoundAssertion → Facts → Machine → List Machine → ℕ → Type 0
IsBeforeGaps image list x first rest place =
    (i : ℕ) → i < place → (top : Frame) (below : List Frame) → (config_at image first rest i).frames ≡ top ∷ below → ArePlain list (top ∷ below)
    → HasNoGap x top.sub (machine_at image first rest i).pc

-- each stub's frame keeps what is asserted of the stub
abbrev pub KeepsAllStubs : List ℕ → List BoundAssertion → Machine → List Machine → Type 0
KeepsAllStubs image list first rest = (entry time : ℕ) → stub list entry ≡ Some time → KeepsStubs image first rest entry time

-- what a run is asked, from a root on
pub record IsFollowable (image costs : List ℕ) (list : List BoundAssertion) (y : StackFacts) (x : Facts) (root : ℕ) (first : Machine) (rest : List Machine)
    : Type 0 where
  pub bytes : AreBytes image
  pub begins : BeginsAt root first
  pub runs : RunsFrom image costs first rest
  pub looked_into : is_stub list root ≡ false
  pub stands : Stands image (y (root_frame first ∷ [])) Stays (root_frame first) first
  pub meets : (i : ℕ) → i ≤ length rest → MeetsEach list (sight_at image first rest i)
  pub stubs : KeepsAllStubs image list first rest
  pub facts : StepFacts image costs list y x

-- what holds at a place, and of the step from it
pub record IsFollowedAt (image : List ℕ) (list : List BoundAssertion) (y : StackFacts) (x : Facts) (invalid : ℕ) (first : Machine) (rest : List Machine)
    (i : ℕ) : Type 0 where
  pub running : IsRunning image invalid (config_at image first rest i)
  pub holds : Holds image list y x invalid (config_at image first rest i).due (config_at image first rest i).frames (machine_at image first rest i)
  pub steps : i < length rest → IsBeforeGaps image list x first rest (suc i) → (top : Frame) (below : List Frame)
      → (config_at image first rest i).frames ≡ top ∷ below
      → IsStepFollowed image list y x (config_at image first rest i) (config_at image first rest (suc i)) top below

-- up to its first gap each place of a run is followed
abbrev pub RunsAreFollowed : Type 0
RunsAreFollowed =
    (image costs : List ℕ) (list : List BoundAssertion) (y : StackFacts) (x : Facts) (root : ℕ) (first : Machine) (rest : List Machine)
    → IsFollowable image costs list y x root first rest
    → (invalid : ℕ) × ((i : ℕ) → i ≤ length rest → IsBeforeGaps image list x first rest i → IsFollowedAt image list y x invalid first rest i)
