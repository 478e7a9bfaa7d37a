-- What an instruction does to the cells, as a step.
use Rattle.std.specs.Prelude.{ℕ, ◌+◌, Bool, Option, Some, None, pos, negsuc}
use Rattle.abs_state.specs.declared.flags.Flags.{Flags}
use Rattle.call_effects.specs.Cell.{cell_of}
use Rattle.sparc_decode.specs.declared.instruction.AluOp.{AluOp}
use Rattle.sparc_decode.specs.declared.instruction.LoadKind.{LoadKind}
use Rattle.sparc_decode.specs.declared.instruction.LoadKind.TheVariants.{Ld, Ldub, Lduh, Ldd, Ldsb, Ldsh}
use Rattle.sparc_decode.specs.declared.instruction.Second.{Second}
use Rattle.transfer_acts.specs.Flag.{of_operation, where_set}
use Rattle.transfer_acts.specs.Operand.{operand, operation, register}
use Rattle.transfer_rules.specs.declared.step.Source.{Source}
use Rattle.transfer_rules.specs.declared.step.Source.TheVariants.{Anything, Ranged, Applied, Loaded}
use Rattle.transfer_rules.specs.declared.step.Step.{Step}
use Rattle.transfer_rules.specs.declared.step.Write.{Write}
use Rattle.value_ops.specs.declared.op.Op.{Op}
use Rattle.value_ops.specs.declared.op.Op.TheVariants.{Add}

-- the step that changes nothing
abbrev pub nothing : ℕ → Step
nothing depth = record { depth = depth; first = None; second = None; flags = None }

-- a register of the window at a depth is written; r0 has cell 0, into which nothing is written
abbrev pub into : ℕ → ℕ → Source → Option Write
into depth rd source = Some (record { cell = cell_of depth rd; source = source })

-- the step that writes a register, and may set the condition codes
abbrev pub sets : ℕ → ℕ → Source → Option Flags → Step
sets depth rd source flags = record { depth = depth; first = into depth rd source; second = None; flags = flags }

-- an operation on two operands at a depth
abbrev pub applied : Op → ℕ → ℕ → Second → Source
applied op depth rs1 second = Applied op (register depth rs1) (operand depth second)

-- an instruction of the arithmetic and logical unit
abbrev pub operated : ℕ → AluOp → Bool → ℕ → ℕ → Second → Step
operated depth op cc rd rs1 second =
    sets depth rd (applied (operation op) depth rs1 second) (where_set cc (of_operation op depth rd rs1 second))

-- SAVE and RESTORE: a sum of the old window into a register of the new one
abbrev pub turned : ℕ → ℕ → ℕ → ℕ → Second → Step
turned depth new rd rs1 second = sets new rd (applied Add depth rs1 second) None

-- what a load finds: a word of memory, or a number of so many bits, with its sign where the load extends that
abbrev pub found : LoadKind → ℕ → ℕ → Second → Source
found Ld depth rs1 second = Loaded (register depth rs1) (operand depth second)
found Ldub depth rs1 second = Ranged (pos 0) (pos 255)
found Lduh depth rs1 second = Ranged (pos 0) (pos 65535)
found Ldd depth rs1 second = Anything
found Ldsb depth rs1 second = Ranged (negsuc 127) (pos 127)
found Ldsh depth rs1 second = Ranged (negsuc 32767) (pos 32767)

-- a load into one register, and one into two
abbrev pub read : ℕ → LoadKind → ℕ → ℕ → Second → Step
read depth Ldd rd rs1 second =
    record { depth = depth; first = into depth rd Anything; second = into depth (rd + 1) Anything; flags = None }
read depth kind rd rs1 second = sets depth rd (found kind depth rs1 second) None
