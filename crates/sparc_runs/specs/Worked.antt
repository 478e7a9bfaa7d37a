-- A worked run: a call by a register of a subprogram that returns at once, and behind it a loop of two instructions, twice
-- begun. Assertions that it meets, and assertions that it breaks, one of each kind.
use Rattle.std.specs.Prelude.{◌≡◌, ◌≢◌, ℕ, ◌==◌, ◌&&◌, nat_le, pos, neg_ℤ, false, List, [], ◌∷◌, ◌++◌, replicate, slice_set, None, All}
use Rattle.assert_bind.specs.declared.body.BoundAssertion.{BoundAssertion}
use Rattle.assert_bind.specs.declared.body.BoundBody.TheVariants as body
use Rattle.bt_image.specs.Checked.{IsAccepted}
use Rattle.sparc_decode.specs.declared.instruction.Instr.TheVariants.{Jmpl}
use Rattle.sparc_decode.specs.declared.instruction.Second.TheVariants.{Imm}
use Rattle.sparc_machine.specs.Frame.{Frame, Stays, Calls, Returns, RunsFrom, BeginsAt, transfer_by, root_frame, due_at, frames_at}
use Rattle.sparc_machine.specs.declared.machine.Machine.{Machine}
use Rattle.sparc_runs.specs.Meets.{Heads, Meets}

-- what a file begins with: the magic number, 32 bits, the highest byte first, version 1
abbrev pub identification : List ℕ
identification = 0x7f ∷ 0x45 ∷ 0x4c ∷ 0x46 ∷ 1 ∷ 2 ∷ 1 ∷ replicate 9 0

-- the header of a file: an executable for SPARC, version 1, with its entry at 4096; its section headers begin at 52, of 40
-- bytes each, and there is one
abbrev pub file_header : List ℕ
file_header =
    identification ++ 0 ∷ 2 ∷ 0 ∷ 2 ∷ 0 ∷ 0 ∷ 0 ∷ 1 ∷ 0 ∷ 0 ∷ 16 ∷ 0 ∷ replicate 4 0 ++ 0 ∷ 0 ∷ 0 ∷ 52 ∷ replicate 4 0
    ++ 0 ∷ 52 ∷ replicate 4 0 ++ 0 ∷ 40 ∷ 0 ∷ 1 ∷ 0 ∷ 0 ∷ []

-- a section of type PROGBITS that is allocated and executable: 24 bytes at address 4096, from place 92 of the file on
abbrev pub section_header : List ℕ
section_header = replicate 7 0 ++ 1 ∷ 0 ∷ 0 ∷ 0 ∷ 6 ∷ 0 ∷ 0 ∷ 16 ∷ 0 ∷ 0 ∷ 0 ∷ 0 ∷ 92 ∷ 0 ∷ 0 ∷ 0 ∷ 24 ∷ replicate 16 0

-- its words: a call by r8 and a nop; a branch to itself and a nop; the return of a leaf and a nop
abbrev pub code : List ℕ
code =
    0x9f ∷ 0xc2 ∷ 0x20 ∷ 0x00 ∷ 0x01 ∷ 0x00 ∷ 0x00 ∷ 0x00 ∷ 0x10 ∷ 0x80 ∷ 0x00 ∷ 0x00 ∷ 0x01 ∷ 0x00 ∷ 0x00 ∷ 0x00
    ∷ 0x81 ∷ 0xc3 ∷ 0xe0 ∷ 0x08 ∷ 0x01 ∷ 0x00 ∷ 0x00 ∷ 0x00 ∷ []

-- an image with this one section
abbrev pub image : List ℕ
image = file_header ++ section_header ++ code

-- each class of instructions costs one cycle
abbrev pub costs : List ℕ
costs = replicate 30 1

-- the registers hold 0, but r8 the address of the subprogram
abbrev pub first_registers : List ℕ
first_registers = slice_set (replicate 136 0) 8 4112

-- at the call, in window 0, where window 1 is invalid
abbrev pub at_call : Machine
at_call = record { regs = first_registers; n = false; z = false; v = false; c = false; pc = 4096; npc = 4100; cwp = 0; wim = 2; cycles = 0; loaded = 0 }

-- at its delay instruction: r15 has the call's address
abbrev pub at_delay : Machine
at_delay = record at_call { regs = slice_set first_registers 15 4096; pc = 4100; npc = 4112; cycles = 1 }

-- at the entry of the subprogram, and at the delay instruction of its return
abbrev pub at_entry : Machine
at_entry = record at_delay { pc = 4112; npc = 4116; cycles = 2 }

abbrev pub at_return : Machine
at_return = record at_delay { pc = 4116; npc = 4104; cycles = 3 }

-- at the head of the loop, at the delay instruction of its branch, and at the head again
abbrev pub at_head : Machine
at_head = record at_delay { pc = 4104; npc = 4108; cycles = 4 }

abbrev pub at_turn : Machine
at_turn = record at_delay { pc = 4108; npc = 4104; cycles = 5 }

abbrev pub at_head_again : Machine
at_head_again = record at_delay { pc = 4104; npc = 4108; cycles = 6 }

-- the machines behind the first
abbrev pub behind : List Machine
behind = at_delay ∷ at_entry ∷ at_return ∷ at_head ∷ at_turn ∷ at_head_again ∷ []

-- the frame of the subprogram, pushed behind the delay instruction
abbrev pub the_frame : Frame
the_frame = record { sub = 4112; caller = 4096; start = at_entry }

-- the nodes of each frame are its program counters, and there is one loop, from 4104 to 4108
abbrev pub heads : Heads
heads = record {
  number = λ stack due m. m.pc;
  loops = λ stack. record { has = λ h. h == 4104; body = λ h n. nat_le 4104 n && nat_le n 4108 };
  pc = λ stack h. h;
}

-- r8 is from 0 to 5000 at 4096; 4120 isn't reached; the return goes to 4104 or 4120; the call calls 4112; the head is passed
-- twice at most; the subprogram takes two cycles at most; the run begins in a root
abbrev pub kept : List BoundAssertion
kept =
    record { line = 1; body = body.Root 4096 }
    ∷ record { line = 2; body = body.At 4096 8 (pos 0) (pos 5000) }
    ∷ record { line = 3; body = body.Never 4120 }
    ∷ record { line = 4; body = body.Jump 4112 (4104 ∷ 4120 ∷ []) }
    ∷ record { line = 5; body = body.CallTo 4096 (4112 ∷ []) }
    ∷ record { line = 6; body = body.Loop 4104 2 }
    ∷ record { line = 7; body = body.Stub 4112 2 }
    ∷ []

-- r8 is below 4112; 4112 isn't reached; the return goes to 4108; the call calls 4104; the head is passed once; the
-- subprogram takes one cycle, as it has taken at the delay instruction of its return
abbrev pub broken : List BoundAssertion
broken =
    record { line = 1; body = body.At 4096 8 (neg_ℤ (pos 1)) (pos 4111) }
    ∷ record { line = 2; body = body.Never 4112 }
    ∷ record { line = 3; body = body.Jump 4112 (4108 ∷ []) }
    ∷ record { line = 4; body = body.CallTo 4096 (4104 ∷ []) }
    ∷ record { line = 5; body = body.Loop 4104 1 }
    ∷ record { line = 6; body = body.Stub 4112 1 }
    ∷ []

-- it is a run over an accepted file, from 4096 on
pub record IsWorkedRun : Type 0 where
  pub accepted : IsAccepted image
  pub begins : BeginsAt 4096 at_call
  pub runs : RunsFrom image costs at_call behind

-- a jump to twelve bytes behind r15 is a return as the one to eight is, and one to sixteen isn't
pub record AreReturns : Type 0 where
  pub leaves : transfer_by at_entry (Jmpl 0 15 (Imm (pos 8))) None ≡ Returns
  pub skips : transfer_by at_entry (Jmpl 0 15 (Imm (pos 12))) None ≡ Returns
  pub stays : transfer_by at_entry (Jmpl 0 15 (Imm (pos 16))) None ≡ Stays

-- its stack: the frame is pushed behind the delay instruction of the call, with the machine there and not the one at the
-- call, and popped behind that of the return, not before
pub record HasWorkedFrames : Type 0 where
  pub calls : due_at image at_call behind 1 ≡ Calls 4112 4096
  pub before : frames_at image at_call behind 1 ≡ root_frame at_call ∷ []
  pub pushed : frames_at image at_call behind 2 ≡ the_frame ∷ root_frame at_call ∷ []
  pub not_call : frames_at image at_call behind 2 ≢ record the_frame { start = at_call } ∷ root_frame at_call ∷ []
  pub returns : due_at image at_call behind 3 ≡ Returns
  pub stays : frames_at image at_call behind 3 ≡ the_frame ∷ root_frame at_call ∷ []
  pub popped : frames_at image at_call behind 4 ≡ root_frame at_call ∷ []
  pub kinds : AreReturns

-- it meets the assertions that it keeps, and none of those that it breaks
pub record RunsMeetAndBreak : Type 0 where
  pub met : Meets image heads at_call behind kept
  pub broken : All (λ assertion. ¬ Meets image heads at_call behind (assertion ∷ [])) broken
