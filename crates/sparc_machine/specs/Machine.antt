-- The parts of a machine, and the ways in which a step changes them.
use Rattle.std.specs.Prelude.{◌==◌, ◌≡◌, ℕ, ◌+◌, ◌%◌, ◌^◌, ◌<◌, All, length, slice_index, slice_set, if◌then◌else◌}
use Rattle.std.specs.Int.{w32, cast_unsigned}
use Rattle.sparc_decode.specs.declared.instruction.Second.{Second}
use Rattle.sparc_decode.specs.declared.instruction.Second.TheVariants.{Reg, Imm}
use Rattle.sparc_machine.specs.Register.{physical_of}
use Rattle.sparc_machine.specs.declared.machine.Machine.{Machine}

-- the content of a register of the current window; r0 is always 0
abbrev pub register_of : Machine → ℕ → ℕ
register_of m r = if r == 0 then 0 else slice_index m.regs (physical_of m.cwp r)

-- the machine with a register of its current window written; a write to r0 is dropped
abbrev pub with_register : Machine → ℕ → ℕ → Machine
with_register m r value = if r == 0 then m else record m { regs = slice_set m.regs (physical_of m.cwp r) value }

-- the second operand: a register's content, or its number modulo 2 ^ 32
abbrev pub operand_of : Machine → Second → ℕ
operand_of m (Reg r) = register_of m r
operand_of m (Imm n) = cast_unsigned w32 n

-- the machine that goes on to its next instruction, and to this one after that
abbrev pub going_to : Machine → ℕ → Machine
going_to m next = record m { pc = m.npc; npc = next }

-- the machine that goes on by one instruction
abbrev pub advanced : Machine → Machine
advanced m = going_to m ((m.npc + 4) % 2 ^ 32)

-- the machine that has spent so many cycles more on a step that loaded these registers, which are a set as bits
abbrev pub charged : Machine → ℕ → ℕ → Machine
charged m cost these = record m { cycles = m.cycles + cost; loaded = these }

-- the numbers of a machine are within their types; cycles are counted without limit
pub record IsMachine (m : Machine) : Type 0 where
  pub registers : length m.regs ≡ 136
  pub words : All (λ word. word < 2 ^ 32) m.regs
  pub pc : m.pc < 2 ^ 32
  pub npc : m.npc < 2 ^ 32
  pub window : m.cwp < 8
  pub mask : m.wim < 2 ^ 8
  pub loaded : m.loaded < 2 ^ 32
