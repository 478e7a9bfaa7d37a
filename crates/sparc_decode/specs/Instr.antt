-- The instruction that a word stands for (SPARC Architecture Manual Version 7, "Opcodes").
use Rattle.std.specs.Prelude.{◌≡◌, ℕ, ◌^◌, ◌<◌, true, Some, slice_get}
use Rattle.sparc_decode.specs.Opcodes.{table_of, selector_of}
use Rattle.sparc_decode.specs.Row.{Row, has, named_by}
use Rattle.sparc_decode.specs.Word.{field, IsSigned}
use Rattle.sparc_decode.specs.declared.instruction.Instr.{Instr}
use Rattle.sparc_decode.specs.declared.instruction.Instr.TheVariants.{Call, Unimp, Sethi, Branch, FloatBranch, Alu, Tagged, MulStep, Shift, ReadY}
use Rattle.sparc_decode.specs.declared.instruction.Instr.TheVariants.{WriteY, FloatOp, FloatCmp, Jmpl, Flush, Save, Restore, Ticc, Load, Store}
use Rattle.sparc_decode.specs.declared.instruction.Instr.TheVariants.{Atomic, FloatMem, Unmodelled, Unknown, Multiply, Divide}
use Rattle.sparc_decode.specs.declared.instruction.Second.{Second}
use Rattle.sparc_decode.specs.declared.instruction.Second.TheVariants.{Reg, Imm}

-- the instruction that a word stands for: that of the row of its op's table that has its selector
unfoldable pub instruction_of : ℕ → Instr
instruction_of word = named_by (table_of (field word 30 2)) (selector_of (field word 30 2) word) word

-- a row of the table of a word's op, at a place, that has the word's selector
pub record IsRowOf (word place : ℕ) (row : Row) : Type 0 where
  pub stands : slice_get (table_of (field word 30 2)) place ≡ Some row
  pub selects : has row.selectors (selector_of (field word 30 2) word) ≡ true

-- An instruction that a word stands for: that of a row which has the word's selector, or unknown where none has.
pub data StandsFor (word : ℕ) (instruction : Instr) : Type 0 where
  Named : (place : ℕ) (row : Row) → IsRowOf word place row → instruction ≡ row.instruction word → StandsFor word instruction
  Unnamed : ((place : ℕ) (row : Row) → ¬ IsRowOf word place row) → instruction ≡ Unknown word → StandsFor word instruction

-- each word stands for exactly one instruction, which is the one of the function above
abbrev pub EachWordStandsForOne : Type 0
EachWordStandsForOne = (word : ℕ) → StandsFor word (instruction_of word) × ((other : Instr) → StandsFor word other → other ≡ instruction_of word)

-- no selector stands in two rows
abbrev pub NoSelectorStandsTwice : Type 0
NoSelectorStandsTwice = (word first second : ℕ) (one other : Row) → IsRowOf word first one → IsRowOf word second other → first ≡ second

-- a second operand is a register below 32, or a number of 13 bits with its sign
abbrev pub IsOperand : Second → Type 0
IsOperand (Reg r) = r < 32
IsOperand (Imm n) = IsSigned n 13

-- rd, rs1 and second are within their fields
abbrev pub AreOperands : ℕ → ℕ → Second → Type 0
AreOperands rd rs1 second = (rd < 32) × (rs1 < 32) × IsOperand second

-- each part is within its field: registers are below 32, conditions below 16, and numbers fit their bits
abbrev pub InRange : Instr → Type 0
InRange (Call disp) = disp < 2 ^ 30
InRange (Unimp imm) = imm < 2 ^ 22
InRange (Sethi rd imm) = (rd < 32) × (imm < 2 ^ 22)
InRange (Branch annul cond disp) = (cond < 16) × IsSigned disp 22
InRange (FloatBranch annul cond disp) = (cond < 16) × IsSigned disp 22
InRange (Alu op cc rd rs1 second) = AreOperands rd rs1 second
InRange (Tagged op rd rs1 second) = AreOperands rd rs1 second
InRange (MulStep rd rs1 second) = AreOperands rd rs1 second
InRange (Shift op rd rs1 second) = AreOperands rd rs1 second
InRange (ReadY rd) = rd < 32
InRange (WriteY rs1 second) = (rs1 < 32) × IsOperand second
InRange (FloatOp word) = Unit {0}
InRange (FloatCmp word) = Unit {0}
InRange (Jmpl rd rs1 second) = AreOperands rd rs1 second
InRange (Flush rs1 second) = (rs1 < 32) × IsOperand second
InRange (Save rd rs1 second) = AreOperands rd rs1 second
InRange (Restore rd rs1 second) = AreOperands rd rs1 second
InRange (Ticc cond rs1 second) = (cond < 16) × (rs1 < 32) × IsOperand second
InRange (Load kind rd rs1 second) = AreOperands rd rs1 second
InRange (Store kind rd rs1 second) = AreOperands rd rs1 second
InRange (Atomic swap rd rs1 second) = AreOperands rd rs1 second
InRange (FloatMem kind rd rs1 second) = AreOperands rd rs1 second
InRange (Unmodelled word) = Unit {0}
InRange (Unknown word) = Unit {0}
InRange (Multiply cc rd rs1 second) = AreOperands rd rs1 second
InRange (Divide cc rd rs1 second) = AreOperands rd rs1 second

-- the fields of the instruction that a word stands for are in range
abbrev pub FieldsAreInRange : Type 0
FieldsAreInRange = (word : ℕ) → InRange (instruction_of word)
