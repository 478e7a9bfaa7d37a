-- Straight code: instructions that only compute, and a return with its delay instruction at the end.
use Rattle.std.specs.Prelude.{◌==◌, ◌≡◌, ◌≢◌, ℕ, zero, suc, ◌+◌, ◌-◌, ◌*◌, ◌^◌, ◌<◌, ◌≤◌, Bool, true, false, List, Option, Some, None, bit_and}
use Rattle.std.specs.Option.{option_map}
use Rattle.sparc_decode.specs.Instr.{instruction_of}
use Rattle.sparc_decode.specs.Register.{mask_of, registers_written, registers_loaded}
use Rattle.sparc_decode.specs.declared.instruction.AluOp.TheVariants.{Add, Or}
use Rattle.sparc_decode.specs.declared.instruction.Instr.{Instr}
use Rattle.sparc_decode.specs.declared.instruction.Instr.TheVariants.{Sethi, Alu}
use Rattle.sparc_machine.specs.Effect.{code_word, step_cost}

-- the word of the return of a leaf: a jump to eight bytes behind the call
abbrev pub return_word : ℕ
return_word = 0x81c3e008

-- SETHI, and ADD and OR without condition codes
abbrev pub only_computes : Instr → Bool
only_computes (Sethi rd imm) = true
only_computes (Alu Add false rd rs1 second) = true
only_computes (Alu Or false rd rs1 second) = true
only_computes _ = false

-- whether an instruction leaves r15, which has the address of the call
abbrev pub leaves_link : Instr → Bool
leaves_link instruction = bit_and (mask_of (registers_written instruction)) 0x8000 == 0

-- the instruction of the word of code at an address
abbrev pub code_instruction : List ℕ → ℕ → Option Instr
code_instruction image a = option_map instruction_of (code_word image a)

-- whether an instruction is there and passes a test
abbrev pub passes : (Instr → Bool) → Option Instr → Bool
passes test None = false
passes test (Some instruction) = test instruction

-- From the entry on there are so many words of code: the last but one is the return, every other only computes,
-- and none before the return writes r15.
pub record IsStraight (image : List ℕ) (entry count : ℕ) : Type 0 where
  pub long : 2 ≤ count
  pub few : count ≤ 131072
  pub within : entry + 4 * count ≤ 2 ^ 32
  pub leave : code_word image (entry + 4 * (count - 2)) ≡ Some return_word
  pub compute : (i : ℕ) → i < count → i + 2 ≢ count → passes only_computes (code_instruction image (entry + 4 * i)) ≡ true
  pub link : (i : ℕ) → i + 2 < count → passes leaves_link (code_instruction image (entry + 4 * i)) ≡ true

-- every register, as a set of bits: a run may begin behind a load of any
abbrev pub all_registers : ℕ
all_registers = 0xffffffff

-- the registers that an instruction loads, where there is one, as a set of bits
abbrev pub loads : Option Instr → ℕ
loads None = 0
loads (Some instruction) = mask_of (registers_loaded instruction)

-- the registers that may be loaded right before the word at a place from the entry on: by the word in front of it, and
-- in front of the first every register
abbrev pub loaded_before : List ℕ → ℕ → ℕ → ℕ
loaded_before image entry zero = all_registers
loaded_before image entry (suc i) = loads (code_instruction image (entry + 4 * i))

-- what an instruction costs that annuls nothing, where there is one, behind a load of these registers
abbrev pub cost_alone : List ℕ → ℕ → Option Instr → ℕ
cost_alone costs before None = 0
cost_alone costs before (Some instruction) = step_cost costs before instruction false

-- what so many words of code cost, from the entry on and each executed once
abbrev pub code_cost : List ℕ → List ℕ → ℕ → ℕ → ℕ
code_cost image costs entry zero = 0
code_cost image costs entry (suc n) =
    code_cost image costs entry n + cost_alone costs (loaded_before image entry n) (code_instruction image (entry + 4 * n))

-- where code is straight from an entry on, the number of its words is one
abbrev pub StraightCodeIsOne : Type 0
StraightCodeIsOne = (image : List ℕ) (entry m n : ℕ) → IsStraight image entry m → IsStraight image entry n → m ≡ n

-- the word at a place from the entry on stands past the address space, or its instruction doesn't compute alone, or
-- it writes r15
abbrev pub IsBlocked : List ℕ → ℕ → ℕ → Type 0
IsBlocked image entry i =
    entry + 4 * (i + 1) ≤ 2 ^ 32 → passes only_computes (code_instruction image (entry + 4 * i)) ≡ true
    → passes leaves_link (code_instruction image (entry + 4 * i)) ≡ false

-- so many words from the entry on only compute and leave r15
pub record ArePassed (image : List ℕ) (entry count : ℕ) : Type 0 where
  pub compute : (i : ℕ) → i < count → passes only_computes (code_instruction image (entry + 4 * i)) ≡ true
  pub link : (i : ℕ) → i < count → passes leaves_link (code_instruction image (entry + 4 * i)) ≡ true

-- the return stands at a place from the entry on, with a delay instruction that only computes, at this cost
pub record Leaves (image costs : List ℕ) (entry i spent : ℕ) : Type 0 where
  pub within : entry + 4 * (i + 2) ≤ 2 ^ 32
  pub leave : code_word image (entry + 4 * i) ≡ Some return_word
  pub delay : passes only_computes (code_instruction image (entry + 4 * (i + 1))) ≡ true
  pub cost : spent ≡ cost_alone costs (loaded_before image entry i) (code_instruction image (entry + 4 * i))
      + cost_alone costs (loaded_before image entry (suc i)) (code_instruction image (entry + 4 * (i + 1)))
