-- Every step keeps the numbers of a machine within their types, over an image whose bytes are bytes.
use Rattle.std.specs.Prelude.{ℕ, ◌^◌, ◌<◌, List, All}
use Rattle.sparc_decode.specs.Instr.{IsOperand}
use Rattle.sparc_decode.specs.declared.instruction.Second.{Second}
use Rattle.sparc_machine.specs.Frame.{StepsTo}
use Rattle.sparc_machine.specs.Machine.{IsMachine, register_of, operand_of}
use Rattle.sparc_machine.specs.declared.machine.Machine.{Machine}

-- each number is a byte's
abbrev pub AreBytes : List ℕ → Type 0
AreBytes bytes = All (λ byte. byte < 256) bytes

-- a step of a machine ends in a machine
abbrev pub StepsKeepMachines : Type 0
StepsKeepMachines = (image cycles : List ℕ) (m next : Machine) → AreBytes image → IsMachine m → StepsTo image cycles m next → IsMachine next

-- what a machine has in a register, and what a second operand comes to in it, are words
pub record OperandsAreWords : Type 0 where
  pub first : (m : Machine) (r : ℕ) → IsMachine m → register_of m r < 2 ^ 32
  pub second : (m : Machine) (second : Second) → IsMachine m → IsOperand second → operand_of m second < 2 ^ 32
