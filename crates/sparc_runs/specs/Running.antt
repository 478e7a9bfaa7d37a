-- What holds of every machine of a run with the transfer that is due, in whatever frame.
use Rattle.std.specs.Prelude.{◌==◌, ◌≡◌, ℕ, ◌+◌, ◌-◌, ◌%◌, ◌^◌, ◌<◌, Bool, true, false, List, [], ◌∷◌}
use Rattle.sparc_decode.specs.declared.instruction.Instr.{Instr}
use Rattle.sparc_decode.specs.declared.instruction.Instr.TheVariants.{Call, Jmpl}
use Rattle.sparc_machine.specs.Frame.{Frame, Transfer, Stays, Calls, Returns, Config, config_after, config_at, StepsTo}
use Rattle.sparc_machine.specs.Frame.{RunsFrom, BeginsAt, is_return, lets_call, instruction_at}
use Rattle.sparc_machine.specs.Machine.{IsMachine, register_of}
use Rattle.sparc_machine.specs.Straight.{code_instruction, passes}
use Rattle.sparc_machine.specs.declared.machine.Machine.{Machine}
use Rattle.sparc_runs.specs.Sound.{AreBytes}
use Rattle.sparc_runs.specs.Window.{IsMasked}

-- an instruction that leaves its address in r15
abbrev pub is_call : Instr → Bool
is_call (Call disp) = true
is_call (Jmpl rd rs1 second) = rd == 15
is_call _ = false

-- an instruction that is a return
abbrev pub returns : Instr → Bool
returns (Jmpl rd rs1 second) = is_return rd rs1 second
returns _ = false

-- a machine stands at the delay instruction of the call at an address, which goes to this target and has left the
-- address in r15; the delay instruction lets it be a call
pub record IsCalling (image : List ℕ) (target address : ℕ) (m : Machine) : Type 0 where
  pub pc : m.pc ≡ (address + 4) % 2 ^ 32
  pub npc : m.npc ≡ target
  pub word : address < 2 ^ 32
  pub link : register_of m 15 ≡ address
  pub call : passes is_call (code_instruction image address) ≡ true
  pub delay : lets_call (instruction_at image m.pc) ≡ true

-- a machine stands at the delay instruction of a return
pub record IsReturning (image : List ℕ) (m : Machine) : Type 0 where
  pub leave : passes returns (code_instruction image ((m.pc + 2 ^ 32 - 4) % 2 ^ 32)) ≡ true

-- what the words before a machine say of the transfer that is due at it
abbrev pub IsDue : List ℕ → Transfer → Machine → Type 0
IsDue image Stays m = Unit {0}
IsDue image (Calls target address) m = IsCalling image target address m
IsDue image Returns m = IsReturning image m

-- where a run is: a machine, whose window is in use, with a transfer due as the words say
pub record IsRunning (image : List ℕ) (invalid : ℕ) (c : Config) : Type 0 where
  pub machine : IsMachine c.machine
  pub mask : IsMasked invalid c.machine
  pub due : IsDue image c.due c.machine

-- a frame is pushed by a call at its caller's address, and r15 has that at its push
pub record IsPushed (image : List ℕ) (invalid : ℕ) (F : Frame) : Type 0 where
  pub machine : IsMachine F.start
  pub mask : IsMasked invalid F.start
  pub word : F.caller < 2 ^ 32
  pub link : register_of F.start 15 ≡ F.caller
  pub call : passes is_call (code_instruction image F.caller) ≡ true

-- so is each frame of a stack but the root's, which begins with the run
abbrev pub ArePushed : List ℕ → ℕ → Machine → List Frame → Type 0
ArePushed image invalid first [] = Unit {0}
ArePushed image invalid first (root ∷ []) = root.start ≡ first
ArePushed image invalid first (top ∷ below ∷ rest) = IsPushed image invalid top × ArePushed image invalid first (below ∷ rest)

-- every step keeps this
abbrev pub StepsKeepRunning : Type 0
StepsKeepRunning =
    (image cycles : List ℕ) (invalid : ℕ) (c : Config) (next : Machine) → AreBytes image → IsRunning image invalid c → StepsTo image cycles c.machine next
    → IsRunning image invalid (config_after image c next)

-- what holds at a place of a run
pub record IsRunningAt (image : List ℕ) (invalid : ℕ) (first : Machine) (rest : List Machine) (i : ℕ) : Type 0 where
  pub running : IsRunning image invalid (config_at image first rest i)
  pub pushed : ArePushed image invalid first (config_at image first rest i).frames

-- so it holds at every place of a run from an entry on, with one window that is invalid throughout
abbrev pub RunsAreRunning : Type 0
RunsAreRunning =
    (image cycles : List ℕ) (entry : ℕ) (first : Machine) (rest : List Machine) → AreBytes image → BeginsAt entry first → RunsFrom image cycles first rest
    → (invalid : ℕ) × IsMasked invalid first × ((i : ℕ) → IsRunningAt image invalid first rest i)

-- the delay instruction of a call keeps the window and r15
pub record IsLinked (address : ℕ) (m next : Machine) : Type 0 where
  pub window : next.cwp ≡ m.cwp
  pub link : register_of next 15 ≡ address

abbrev pub DelaysKeepLinks : Type 0
DelaysKeepLinks =
    (image cycles : List ℕ) (target address : ℕ) (m next : Machine) → IsMachine m → IsCalling image target address m → StepsTo image cycles m next
    → IsLinked address m next
