-- What the condition codes are those of behind an instruction.
use Rattle.std.specs.Prelude.{◌==◌, ℕ, Bool, false, not, ◌&&◌, ◌||◌, Option, Some, None, pos, if◌then◌else◌}
use Rattle.std.specs.Ordering.{int_eq}
use Rattle.abs_state.specs.declared.flags.Flags.{Flags}
use Rattle.abs_state.specs.declared.flags.Flags.TheVariants.{Unknown, Cmp, Res}
use Rattle.abs_state.specs.declared.flags.Right.TheVariants.{Word}
use Rattle.call_effects.specs.Cell.{cell_of}
use Rattle.sparc_decode.specs.declared.instruction.AluOp.{AluOp}
use Rattle.sparc_decode.specs.declared.instruction.AluOp.TheVariants.{Add, And, Or, Xor, Sub, Andn, Orn, Xnor, Addx, Subx}
use Rattle.sparc_decode.specs.declared.instruction.Second.{Second}
use Rattle.sparc_decode.specs.declared.instruction.Second.TheVariants.{Reg, Imm}
use Rattle.transfer_acts.specs.Operand.{right_of}

-- those of a register's content less 0
abbrev pub of_test : ℕ → ℕ → Flags
of_test depth r = Cmp (cell_of depth r) (Word 0)

-- N and Z are those of the result, where it is kept
abbrev pub of_result : ℕ → ℕ → Flags
of_result depth rd = if rd == 0 then Unknown else Res (cell_of depth rd)

-- whether the second operand is this register
abbrev pub is_register : Second → ℕ → Bool
is_register (Reg r) rd = r == rd
is_register (Imm n) rd = false

-- whether both sources are left as they were
abbrev pub keeps_sources : ℕ → ℕ → Second → Bool
keeps_sources rd rs1 second = (rd == 0) || (not (rd == rs1) && not (is_register second rd))

-- those of a difference: of its sources where both are left, else of its result
abbrev pub of_difference : ℕ → ℕ → ℕ → Second → Flags
of_difference depth rd rs1 second =
    if not (rs1 == 0) && keeps_sources rd rs1 second then Cmp (cell_of depth rs1) (right_of depth second) else of_result depth rd

-- those of a logical result that is kept
abbrev pub of_logic : ℕ → ℕ → Flags
of_logic depth rd = if rd == 0 then Unknown else of_test depth rd

-- those of an OR of a register and 0 that isn't kept
abbrev pub of_tested : ℕ → ℕ → Second → Flags
of_tested depth rs1 (Reg r) = if r == 0 then of_test depth rs1 else (if rs1 == 0 then of_test depth r else Unknown)
of_tested depth rs1 (Imm n) = if int_eq n (pos 0) then of_test depth rs1 else Unknown

abbrev pub of_or : ℕ → ℕ → ℕ → Second → Flags
of_or depth rd rs1 second = if rd == 0 then of_tested depth rs1 second else of_test depth rd

-- those that an operation with cc sets
abbrev pub of_operation : AluOp → ℕ → ℕ → ℕ → Second → Flags
of_operation Add depth rd rs1 second = of_result depth rd
of_operation And depth rd rs1 second = of_logic depth rd
of_operation Or depth rd rs1 second = of_or depth rd rs1 second
of_operation Xor depth rd rs1 second = of_logic depth rd
of_operation Sub depth rd rs1 second = of_difference depth rd rs1 second
of_operation Andn depth rd rs1 second = of_logic depth rd
of_operation Orn depth rd rs1 second = of_logic depth rd
of_operation Xnor depth rd rs1 second = of_logic depth rd
of_operation Addx depth rd rs1 second = of_result depth rd
of_operation Subx depth rd rs1 second = of_result depth rd

-- the condition codes that an operation sets, where it sets them
abbrev pub where_set : Bool → Flags → Option Flags
where_set cc flags = if cc then Some flags else None
