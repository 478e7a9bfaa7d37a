-- The operands of an instruction as cells, and its operation on values.
use Rattle.std.specs.Prelude.{◌==◌, ℕ, if◌then◌else◌}
use Rattle.std.specs.Int.{w32, cast_unsigned}
use Rattle.abs_state.specs.declared.flags.Right.{Right}
use Rattle.abs_state.specs.declared.flags.Right.TheVariants.{Cell, Word}
use Rattle.call_effects.specs.Cell.{cell_of}
use Rattle.sparc_decode.specs.declared.instruction.AluOp.{AluOp}
use Rattle.sparc_decode.specs.declared.instruction.AluOp.TheVariants as alu
use Rattle.sparc_decode.specs.declared.instruction.Second.{Second}
use Rattle.sparc_decode.specs.declared.instruction.Second.TheVariants.{Reg, Imm}
use Rattle.sparc_decode.specs.declared.instruction.ShiftOp.{ShiftOp}
use Rattle.sparc_decode.specs.declared.instruction.ShiftOp.TheVariants as shift
use Rattle.sparc_decode.specs.declared.instruction.TaggedOp.{TaggedOp}
use Rattle.sparc_decode.specs.declared.instruction.TaggedOp.TheVariants as tagged
use Rattle.value_ops.specs.declared.op.Op.{Op}
use Rattle.value_ops.specs.declared.op.Op.TheVariants as op

-- a register's content at a depth; r0 has cell 0, which is always 0
abbrev pub register : ℕ → ℕ → Right
register depth r = Cell (cell_of depth r)

-- the second operand at a depth
abbrev pub operand : ℕ → Second → Right
operand depth (Reg r) = register depth r
operand depth (Imm n) = Word (cast_unsigned w32 n)

-- the second operand as the condition codes know it: r0 is the word 0
abbrev pub right_of : ℕ → Second → Right
right_of depth (Reg r) = if r == 0 then Word 0 else register depth r
right_of depth (Imm n) = Word (cast_unsigned w32 n)

-- the operation of the arithmetic and logical unit
abbrev pub operation : AluOp → Op
operation alu.Add = op.Add
operation alu.And = op.And
operation alu.Or = op.Or
operation alu.Xor = op.Xor
operation alu.Sub = op.Sub
operation alu.Andn = op.Andn
operation alu.Orn = op.Orn
operation alu.Xnor = op.Xnor
operation alu.Addx = op.Addx
operation alu.Subx = op.Subx

-- that of a tagged sum or difference
abbrev pub tagged_operation : TaggedOp → Op
tagged_operation tagged.Taddcc = op.Add
tagged_operation tagged.Tsubcc = op.Sub
tagged_operation tagged.Taddcctv = op.Add
tagged_operation tagged.Tsubcctv = op.Sub

-- that of a shift
abbrev pub shift_operation : ShiftOp → Op
shift_operation shift.Sll = op.Sll
shift_operation shift.Srl = op.Srl
shift_operation shift.Sra = op.Sra
