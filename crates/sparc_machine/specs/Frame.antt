-- Runs over an image, and the stack of frames at each of their machines.
use Rattle.std.specs.Prelude.{◌==◌, ◌≡◌, ◌≢◌, ℕ, zero, suc, ◌+◌, ◌*◌, ◌%◌, ◌^◌, ◌<◌, Bool, true, false, ◌&&◌, ◌||◌}
use Rattle.std.specs.Prelude.{List, [], ◌∷◌, drop, Option, Some, None, pos, if◌then◌else◌}
use Rattle.std.specs.Option.{option_map}
use Rattle.std.specs.Ordering.{int_eq}
use Rattle.bt_image.specs.Image.{word}
use Rattle.sparc_decode.specs.Instr.{instruction_of}
use Rattle.sparc_decode.specs.declared.instruction.Instr.{Instr}
use Rattle.sparc_decode.specs.declared.instruction.Instr.TheVariants.{Call, Jmpl, Save, Restore}
use Rattle.sparc_decode.specs.declared.instruction.Second.{Second}
use Rattle.sparc_decode.specs.declared.instruction.Second.TheVariants.{Reg, Imm}
use Rattle.sparc_machine.specs.Effect.{address_in, step_of}
use Rattle.sparc_machine.specs.Machine.{IsMachine, register_of}
use Rattle.sparc_machine.specs.Outcome.{Stepped}
use Rattle.sparc_machine.specs.Straight.{leaves_link}
use Rattle.sparc_machine.specs.declared.free.Free.{Free}
use Rattle.sparc_machine.specs.declared.machine.Machine.{Machine}

-- the numbers of a free value are within their types
pub record IsFree (free : Free) : Type 0 where
  pub first : free.first < 2 ^ 32
  pub second : free.second < 2 ^ 32
  pub flags : free.flags < 16

-- one step for some free value
pub record StepsTo (image cycles : List ℕ) (m next : Machine) : Type 0 where
  pub free : Free
  pub within : IsFree free
  pub steps : step_of image cycles free m ≡ Stepped next

-- each machine is one step from the one before, the first of them from this one
abbrev pub RunsFrom : List ℕ → List ℕ → Machine → List Machine → Type 0
RunsFrom image cycles m [] = Unit {0}
RunsFrom image cycles m (next ∷ rest) = StepsTo image cycles m next × RunsFrom image cycles next rest

-- where a run of a subprogram begins: at its entry, with any registers and flags and any cycles; the window mask
-- has one bit, which isn't that of the current window
pub record BeginsAt (entry : ℕ) (m : Machine) : Type 0 where
  pub machine : IsMachine m
  pub pc : m.pc ≡ entry
  pub npc : m.npc ≡ (entry + 4) % 2 ^ 32
  pub mask : (window : ℕ) × (window < 8) × (m.wim ≡ 2 ^ window) × (window ≢ m.cwp)

-- an activation of a subprogram: its address, the address of the call, and the machine at its push, whose window and
-- cycles are those at its start
pub record Frame : Type 0 where
  pub sub : ℕ
  pub caller : ℕ
  pub start : Machine

-- what a step does to the stack of frames once its delay instruction is done
pub data Transfer : Type 0 where
  Stays : Transfer
  Calls : (target address : ℕ) → Transfer
  Returns : Transfer

-- whether the instruction behind a call lets it be one: it is neither SAVE nor RESTORE, and leaves r15; a word that
-- isn't there writes nothing
abbrev pub lets_call : Option Instr → Bool
lets_call None = true
lets_call (Some (Save rd rs1 second)) = false
lets_call (Some (Restore rd rs1 second)) = false
lets_call (Some delay) = leaves_link delay

-- a jump to eight or twelve bytes behind r15 or r31 that leaves no address is a return; the latter skips the word behind
-- the call's delay instruction
abbrev pub is_return : ℕ → ℕ → Second → Bool
is_return rd rs1 (Reg r) = false
is_return rd rs1 (Imm n) = (rd == 0) && ((int_eq n (pos 8) || int_eq n (pos 12)) && ((rs1 == 15) || (rs1 == 31)))

abbrev pub transfer_by : Machine → Instr → Option Instr → Transfer
transfer_by m (Call disp) delay = if lets_call delay then Calls ((m.pc + disp * 4) % 2 ^ 32) m.pc else Stays
transfer_by m (Jmpl rd rs1 second) delay =
    if (rd == 15) && lets_call delay then Calls (address_in m rs1 second) m.pc else (if is_return rd rs1 second then Returns else Stays)
transfer_by m _ delay = Stays

abbrev pub transfer_from : Machine → Option Instr → Option Instr → Transfer
transfer_from m None delay = Stays
transfer_from m (Some instruction) delay = transfer_by m instruction delay

-- the instruction at an address
abbrev pub instruction_at : List ℕ → ℕ → Option Instr
instruction_at image address = option_map instruction_of (word image address)

-- what the step from this machine does to the stack
abbrev pub transfer_of : List ℕ → Machine → Transfer
transfer_of image m = transfer_from m (instruction_at image m.pc) (instruction_at image ((m.pc + 4) % 2 ^ 32))

-- the stack, its top first, at the machine behind the delay instruction of a transfer. Once the frame of the root is
-- popped the stack stays empty: a call then pushes nothing
abbrev pub frames_after : Transfer → Machine → List Frame → List Frame
frames_after Stays m frames = frames
frames_after (Calls target address) m [] = []
frames_after (Calls target address) m (top ∷ rest) = record { sub = target; caller = address; start = m } ∷ top ∷ rest
frames_after Returns m frames = drop 1 frames

-- where a run has come to: the machine, what its step does to the stack, for it may be the delay step of a transfer, and
-- the stack of frames
pub record Config : Type 0 where
  pub machine : Machine
  pub due : Transfer
  pub frames : List Frame

-- and one step further, where that step ends in this machine
abbrev pub config_after : List ℕ → Config → Machine → Config
config_after image c next = record { machine = next; due = transfer_of image c.machine; frames = frames_after c.due next c.frames }

-- and at a place of the machines that follow; past their end it is the last
abbrev pub config_from : List ℕ → Config → List Machine → ℕ → Config
config_from image c rest zero = c
config_from image c [] (suc i) = c
config_from image c (next ∷ rest) (suc i) = config_from image (config_after image c next) rest i

-- the frame of the subprogram that a run begins in
abbrev pub root_frame : Machine → Frame
root_frame m = record { sub = m.pc; caller = register_of m 15; start = m }

-- where a run begins
abbrev pub first_config : Machine → Config
first_config first = record { machine = first; due = Stays; frames = root_frame first ∷ [] }

-- where a run is at a place, which is the number of a machine from its first on
abbrev pub config_at : List ℕ → Machine → List Machine → ℕ → Config
config_at image first rest i = config_from image (first_config first) rest i

-- the machine at each place of a run
abbrev pub machine_at : List ℕ → Machine → List Machine → ℕ → Machine
machine_at image first rest i = (config_at image first rest i).machine

-- the transfer that is due at each place of a run
abbrev pub due_at : List ℕ → Machine → List Machine → ℕ → Transfer
due_at image first rest i = (config_at image first rest i).due

-- the stack at each place of a run
abbrev pub frames_at : List ℕ → Machine → List Machine → ℕ → List Frame
frames_at image first rest i = (config_at image first rest i).frames
