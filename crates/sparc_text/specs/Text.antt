-- The text of an instruction: its name and its operands (SPARC Architecture Manual Version 7, "Instructions"), without
-- the other names that assemblers have for some operands.
use Rattle.std.specs.Prelude.{ℕ, ◌+◌, ◌*◌, ◌%◌, ◌^◌, ℤ, Bool, List, [], ◌++◌, if◌then◌else◌, codes, decimal}
use Rattle.std.specs.Int.{w32, cast_unsigned}
use Rattle.sparc_decode.specs.declared.instruction.FloatKind.{FloatKind}
use Rattle.sparc_decode.specs.declared.instruction.FloatKind.TheVariants.{Ldf, Ldfsr, Lddf, Stf, Stfsr, Stdf}
use Rattle.sparc_decode.specs.declared.instruction.Instr.{Instr}
use Rattle.sparc_decode.specs.declared.instruction.Instr.TheVariants.{Call, Unimp, Sethi, Branch, FloatBranch, Alu, Tagged, MulStep, Shift, ReadY}
use Rattle.sparc_decode.specs.declared.instruction.Instr.TheVariants.{WriteY, FloatOp, FloatCmp, Jmpl, Flush, Save, Restore, Ticc, Load, Store}
use Rattle.sparc_decode.specs.declared.instruction.Instr.TheVariants.{Atomic, FloatMem, Unmodelled, Unknown, Multiply, Divide}
use Rattle.sparc_decode.specs.declared.instruction.Second.{Second}
use Rattle.sparc_text.specs.Names.{hex8_text, register, float_register, operand, address, condition, alu_name, tagged_name, shift_name, load_name}
use Rattle.sparc_text.specs.Names.{store_name, float_name}

-- the address at a displacement of words from the instruction, modulo 2 ^ 32
abbrev pub branch_target : ℕ → ℤ → ℕ
branch_target at disp = (at + cast_unsigned w32 disp * 4) % 2 ^ 32

abbrev pub call_target : ℕ → ℕ → ℕ
call_target at disp = (at + disp * 4) % 2 ^ 32

-- the operands of an operation: rs1, the second, and rd
abbrev pub operands : ℕ → ℕ → Second → List ℕ
operands rd rs1 second = codes " " ++ (register rs1 ++ (codes ", " ++ (operand second ++ (codes ", " ++ register rd))))

-- a word in hexadecimal
abbrev pub hexadecimal : ℕ → List ℕ
hexadecimal n = codes "0x" ++ hex8_text n

-- memory at an address
abbrev pub memory : ℕ → Second → List ℕ
memory rs1 second = codes "[" ++ (address rs1 second ++ codes "]")

-- the operands of a load into a register, whose text is given
abbrev pub loaded : List ℕ → ℕ → Second → List ℕ
loaded target rs1 second = codes " " ++ (memory rs1 second ++ (codes ", " ++ target))

-- the operands of a store of a register, whose text is given
abbrev pub stored : List ℕ → ℕ → Second → List ℕ
stored source rs1 second = codes " " ++ (source ++ (codes ", " ++ memory rs1 second))

-- what follows the condition of a branch: the annul bit, and the target
abbrev pub branching : Bool → ℕ → List ℕ
branching annul target = (if annul then codes ",a " else codes " ") ++ hex8_text target

-- a branch of the integer unit to a target
abbrev pub branch_text : Bool → ℕ → ℕ → List ℕ
branch_text annul cond target = codes "b" ++ (condition cond ++ branching annul target)

-- a branch of the floating-point unit to a target, with its condition in decimal
abbrev pub float_branch_text : Bool → ℕ → ℕ → List ℕ
float_branch_text annul cond target = codes "fb" ++ (decimal cond ++ branching annul target)

-- a call of a target
abbrev pub call_text : ℕ → List ℕ
call_text target = codes "call " ++ hex8_text target

-- the operands of a load or a store of the floating-point unit; those of its state register name no register
abbrev pub float_operands : FloatKind → ℕ → ℕ → Second → List ℕ
float_operands Ldf rd rs1 second = loaded (float_register rd) rs1 second
float_operands Ldfsr rd rs1 second = codes " " ++ memory rs1 second
float_operands Lddf rd rs1 second = loaded (float_register rd) rs1 second
float_operands Stf rd rs1 second = stored (float_register rd) rs1 second
float_operands Stfsr rd rs1 second = codes " " ++ memory rs1 second
float_operands Stdf rd rs1 second = stored (float_register rd) rs1 second

-- an instruction that isn't written by its name
abbrev pub word_text : ℕ → List ℕ
word_text word = codes ".word " ++ hexadecimal word

-- the text of an instruction that stands at an address, for which this word stands there; the multiplications and
-- divisions of SPARC Version 8 aren't written by their names
abbrev pub text_of : ℕ → ℕ → Instr → List ℕ
text_of at these (Call disp) = call_text (call_target at disp)
text_of at these (Unimp imm) = codes "unimp " ++ hexadecimal imm
text_of at these (Sethi rd imm) = codes "sethi " ++ (hexadecimal imm ++ (codes ", " ++ register rd))
text_of at these (Branch annul cond disp) = branch_text annul cond (branch_target at disp)
text_of at these (FloatBranch annul cond disp) = float_branch_text annul cond (branch_target at disp)
text_of at these (Alu op cc rd rs1 second) = alu_name op ++ ((if cc then codes "cc" else []) ++ operands rd rs1 second)
text_of at these (Tagged op rd rs1 second) = tagged_name op ++ operands rd rs1 second
text_of at these (MulStep rd rs1 second) = codes "mulscc" ++ operands rd rs1 second
text_of at these (Shift op rd rs1 second) = shift_name op ++ operands rd rs1 second
text_of at these (ReadY rd) = codes "rdy " ++ register rd
text_of at these (WriteY rs1 second) = codes "wry " ++ (register rs1 ++ (codes ", " ++ operand second))
text_of at these (FloatOp word) = word_text word
text_of at these (FloatCmp word) = word_text word
text_of at these (Jmpl rd rs1 second) = codes "jmpl " ++ (address rs1 second ++ (codes ", " ++ register rd))
text_of at these (Flush rs1 second) = codes "iflush " ++ address rs1 second
text_of at these (Save rd rs1 second) = codes "save" ++ operands rd rs1 second
text_of at these (Restore rd rs1 second) = codes "restore" ++ operands rd rs1 second
text_of at these (Ticc cond rs1 second) = codes "t" ++ (condition cond ++ (codes " " ++ address rs1 second))
text_of at these (Load kind rd rs1 second) = load_name kind ++ loaded (register rd) rs1 second
text_of at these (Store kind rd rs1 second) = store_name kind ++ stored (register rd) rs1 second
text_of at these (Atomic swap rd rs1 second) = (if swap then codes "swap" else codes "ldstub") ++ loaded (register rd) rs1 second
text_of at these (FloatMem kind rd rs1 second) = float_name kind ++ float_operands kind rd rs1 second
text_of at these (Unmodelled word) = word_text word
text_of at these (Unknown word) = word_text word
text_of at these (Multiply cc rd rs1 second) = word_text these
text_of at these (Divide cc rd rs1 second) = word_text these
