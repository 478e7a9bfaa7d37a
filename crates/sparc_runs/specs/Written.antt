-- Which registers a step writes: none but those that its instruction writes, in the window after it.
use Rattle.std.specs.Prelude.{◌≡◌, ℕ, List, Some, slice_index}
use Rattle.sparc_decode.specs.Register.{registers_written}
use Rattle.sparc_decode.specs.declared.instruction.Instr.{Instr}
use Rattle.sparc_machine.specs.Frame.{StepsTo}
use Rattle.sparc_machine.specs.Reads.{AreElsewhere}
use Rattle.sparc_machine.specs.Straight.{code_instruction}
use Rattle.sparc_machine.specs.declared.machine.Machine.{Machine}

-- no place of the registers is written but those of these registers, in the window of the machine after it
abbrev pub WritesOnly : List ℕ → Machine → Machine → Type 0
WritesOnly registers m next = (place : ℕ) → AreElsewhere next place registers → slice_index next.regs place ≡ slice_index m.regs place

-- so it is of each step
abbrev pub StepsWriteOnly : Type 0
StepsWriteOnly =
    (image cycles : List ℕ) (m next : Machine) (i : Instr) → StepsTo image cycles m next → code_instruction image m.pc ≡ Some i
    → WritesOnly (registers_written i) m next
