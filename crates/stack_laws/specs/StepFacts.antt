-- What each step has to show of the facts for the stack to be followed.
use Rattle.std.specs.Prelude.{◌≡◌, ℕ, ◌+◌, ◌%◌, ◌^◌, ◌<◌, Bool, true, false, List, [], ◌∷◌, is_some}
use Rattle.abs_state.specs.declared.key.GapKind.{GapKind}
use Rattle.abs_state.specs.declared.key.Key.TheVariants as key
use Rattle.assert_bind.specs.Binding.{stub}
use Rattle.assert_bind.specs.Sight.{MeetsEach}
use Rattle.assert_bind.specs.declared.body.BoundAssertion.{BoundAssertion}
use Rattle.call_effects.specs.Summary.{effects_of_stub, is_at_most}
use Rattle.sparc_machine.specs.Frame.{Frame, Transfer, Stays, Calls, Returns, StepsTo, transfer_of}
use Rattle.sparc_machine.specs.Machine.{IsMachine}
use Rattle.sparc_machine.specs.declared.machine.Machine.{Machine}
use Rattle.sparc_machine.specs.Straight.{code_instruction}
use Rattle.sparc_runs.specs.Cost.{annuls}
use Rattle.sparc_runs.specs.Meets.{sight_of}
use Rattle.sparc_runs.specs.Running.{IsRunning}
use Rattle.sparc_runs.specs.Window.{IsMasked}
use Rattle.stack_laws.specs.Standing.{Backs, HandsOn, Stands, StackFacts, WritesCells, comes_back, behind_by, place_of, summary_in}
use Rattle.transfer_rules.specs.Give.{Facts}

-- whether a subprogram isn't looked into
abbrev pub is_stub : List BoundAssertion → ℕ → Bool
is_stub list sub = is_some (stub list sub)

-- no frame is that of a stub
abbrev pub ArePlain : List BoundAssertion → List Frame → Type 0
ArePlain list [] = Unit {0}
ArePlain list (F ∷ rest) = (is_stub list F.sub ≡ false) × ArePlain list rest

-- a frame begins with a machine whose window is in use, and comes back behind an address
pub record IsEntered (invalid : ℕ) (F : Frame) : Type 0 where
  pub machine : IsMachine F.start
  pub mask : IsMasked invalid F.start
  pub word : F.caller < 2 ^ 32

abbrev pub AreEntered : ℕ → List Frame → Type 0
AreEntered invalid [] = Unit {0}
AreEntered invalid (F ∷ rest) = IsEntered invalid F × AreEntered invalid rest

-- nothing is open where a machine stands
abbrev pub HasNoGap : Facts → ℕ → ℕ → Type 0
HasNoGap x sub pc = (why : GapKind) → is_some (x (key.Gap sub pc why)) ≡ false

-- A step that a run takes in a frame: from a place of the run where nothing is open, by a machine that a state covers, and
-- which meets the assertions.
pub record IsTaken (image costs : List ℕ) (list : List BoundAssertion) (y : StackFacts) (x : Facts) (invalid : ℕ) (due : Transfer) (top : Frame)
    (rest : List Frame) (m next : Machine) : Type 0 where
  pub running : IsRunning image invalid (record { machine = m; due = due; frames = top ∷ rest })
  pub entered : IsEntered invalid top
  pub plain : ArePlain list (top ∷ rest)
  pub stands : Stands image (y (top ∷ rest)) due top m
  pub steps : StepsTo image costs m next
  pub closed : HasNoGap x top.sub m.pc
  pub meets : MeetsEach list (sight_of image m true)

-- within a frame a step goes along an edge, and the next machine stands
pub record GoesInside (image : List ℕ) (facts x : Facts) (top : Frame) (m next : Machine) : Type 0 where
  pub edge : is_some (facts (key.Edge (place_of Stays top m) (place_of (transfer_of image m) top next))) ≡ true
  pub stands : Stands image facts (transfer_of image m) top next
  pub writes : WritesCells x top m next

-- a step passes nothing over: its instruction is no branch that annuls
abbrev pub PassesNothingOver : List ℕ → Machine → Machine → Type 0
PassesNothingOver image m next = annuls (code_instruction image m.pc) m.pc next.pc ≡ false

-- the frame that the step behind a call pushes
abbrev pub pushed : ℕ → ℕ → Machine → Frame
pushed target address next = record { sub = target; caller = address; start = next }

-- the delay instruction of a call enters the subprogram, whose frame goes on from it and comes back
pub record GoesInto (image : List ℕ) (facts x : Facts) (target address : ℕ) (top : Frame) (m next : Machine) : Type 0 where
  pub still : transfer_of image m ≡ Stays
  pub whole : PassesNothingOver image m next
  pub pc : next.pc ≡ target
  pub npc : next.npc ≡ (target + 4) % 2 ^ 32
  pub called : is_some (facts (key.Call (place_of (Calls target address) top m) target)) ≡ true
  pub writes : WritesCells x top m next
  pub hands : HandsOn x top (pushed target address next)
  pub backs : Backs image facts x top (pushed target address next)

-- the delay instruction of a return leads behind the call, in the window of the push
pub record GoesOut (image : List ℕ) (x : Facts) (top : Frame) (m next : Machine) : Type 0 where
  pub still : transfer_of image m ≡ Stays
  pub whole : PassesNothingOver image m next
  pub skip : Bool
  pub comes : comes_back (summary_in x top.sub) skip ≡ true
  pub pc : next.pc ≡ (top.caller + behind_by skip) % 2 ^ 32
  pub npc : next.npc ≡ (top.caller + behind_by skip + 4) % 2 ^ 32
  pub window : next.cwp ≡ top.start.cwp
  pub writes : WritesCells x top m next

-- what each step of a run shows of the facts: `y` has the program points of a stack, and `x` what subprograms may do and what
-- is open
pub record StepFacts (image costs : List ℕ) (list : List BoundAssertion) (y : StackFacts) (x : Facts) : Type 0 where
  pub inside : (invalid : ℕ) (top : Frame) (rest : List Frame) (m next : Machine) → IsTaken image costs list y x invalid Stays top rest m next
      → GoesInside image (y (top ∷ rest)) x top m next
  pub into : (invalid target address : ℕ) (top : Frame) (rest : List Frame) (m next : Machine)
      → IsTaken image costs list y x invalid (Calls target address) top rest m next → GoesInto image (y (top ∷ rest)) x target address top m next
  pub entered : (invalid target address : ℕ) (top : Frame) (rest : List Frame) (m next : Machine)
      → IsTaken image costs list y x invalid (Calls target address) top rest m next → is_stub list target ≡ false
      → Stands image (y (pushed target address next ∷ top ∷ rest)) Stays (pushed target address next) next
  pub out : (invalid : ℕ) (top : Frame) (rest : List Frame) (m next : Machine) → IsTaken image costs list y x invalid Returns top rest m next
      → GoesOut image x top m next
  pub stubs : (target : ℕ) → is_stub list target ≡ true → is_at_most effects_of_stub (summary_in x target) ≡ true
