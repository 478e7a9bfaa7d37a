-- The operand registers of an instruction, and sets of registers as bits.
use Rattle.std.specs.Prelude.{◌==◌, ℕ, ◌+◌, ◌%◌, ◌^◌, ◌<◌, ◌&&◌, nat_lt, if◌then◌else◌, List, [], ◌∷◌, Contains, ◌↔◌, bit_or, IsBitSet}
use Rattle.sparc_decode.specs.declared.instruction.Instr.{Instr}
use Rattle.sparc_decode.specs.declared.instruction.Instr.TheVariants.{Call, Unimp, Sethi, Branch, FloatBranch, Alu, Tagged, MulStep, Shift, ReadY}
use Rattle.sparc_decode.specs.declared.instruction.Instr.TheVariants.{WriteY, FloatOp, FloatCmp, Jmpl, Flush, Save, Restore, Ticc, Load, Store}
use Rattle.sparc_decode.specs.declared.instruction.Instr.TheVariants.{Atomic, FloatMem, Unmodelled, Unknown, Multiply, Divide}
use Rattle.sparc_decode.specs.declared.instruction.LoadKind.TheVariants.{Ld, Ldub, Lduh, Ldd, Ldsb, Ldsh}
use Rattle.sparc_decode.specs.declared.instruction.Second.{Second}
use Rattle.sparc_decode.specs.declared.instruction.Second.TheVariants.{Reg, Imm}
use Rattle.sparc_decode.specs.declared.instruction.StoreKind.TheVariants.{St, Stb, Sth, Std}

-- the registers of an address or a sum: rs1, and the second operand where it is a register
abbrev pub operands : ℕ → Second → List ℕ
operands rs1 (Reg r) = rs1 ∷ r ∷ []
operands rs1 (Imm n) = rs1 ∷ []

-- The registers that an instruction reads; an odd rd of STD stands alone.
abbrev pub registers_read : Instr → List ℕ
registers_read (Call disp) = []
registers_read (Unimp imm) = []
registers_read (Sethi rd imm) = []
registers_read (Branch annul cond disp) = []
registers_read (FloatBranch annul cond disp) = []
registers_read (Alu op cc rd rs1 second) = operands rs1 second
registers_read (Tagged op rd rs1 second) = operands rs1 second
registers_read (MulStep rd rs1 second) = operands rs1 second
registers_read (Shift op rd rs1 second) = operands rs1 second
registers_read (ReadY rd) = []
registers_read (WriteY rs1 second) = operands rs1 second
registers_read (FloatOp word) = []
registers_read (FloatCmp word) = []
registers_read (Jmpl rd rs1 second) = operands rs1 second
registers_read (Flush rs1 second) = operands rs1 second
registers_read (Save rd rs1 second) = operands rs1 second
registers_read (Restore rd rs1 second) = operands rs1 second
registers_read (Ticc cond rs1 second) = operands rs1 second
registers_read (Load kind rd rs1 second) = operands rs1 second
registers_read (Store St rd rs1 second) = rd ∷ operands rs1 second
registers_read (Store Stb rd rs1 second) = rd ∷ operands rs1 second
registers_read (Store Sth rd rs1 second) = rd ∷ operands rs1 second
registers_read (Store Std rd rs1 second) = if rd % 2 == 0 then rd ∷ (rd + 1) ∷ operands rs1 second else rd ∷ operands rs1 second
registers_read (Atomic swap rd rs1 second) = if swap then rd ∷ operands rs1 second else operands rs1 second
registers_read (FloatMem kind rd rs1 second) = operands rs1 second
registers_read (Unmodelled word) = []
registers_read (Unknown word) = []
registers_read (Multiply cc rd rs1 second) = operands rs1 second
registers_read (Divide cc rd rs1 second) = operands rs1 second

-- The registers that an instruction writes: CALL leaves its address in r15, and LDD writes two. Those of SAVE
-- and RESTORE are registers of the new window.
abbrev pub registers_written : Instr → List ℕ
registers_written (Call disp) = 15 ∷ []
registers_written (Unimp imm) = []
registers_written (Sethi rd imm) = rd ∷ []
registers_written (Branch annul cond disp) = []
registers_written (FloatBranch annul cond disp) = []
registers_written (Alu op cc rd rs1 second) = rd ∷ []
registers_written (Tagged op rd rs1 second) = rd ∷ []
registers_written (MulStep rd rs1 second) = rd ∷ []
registers_written (Shift op rd rs1 second) = rd ∷ []
registers_written (ReadY rd) = rd ∷ []
registers_written (WriteY rs1 second) = []
registers_written (FloatOp word) = []
registers_written (FloatCmp word) = []
registers_written (Jmpl rd rs1 second) = rd ∷ []
registers_written (Flush rs1 second) = []
registers_written (Save rd rs1 second) = rd ∷ []
registers_written (Restore rd rs1 second) = rd ∷ []
registers_written (Ticc cond rs1 second) = []
registers_written (Load Ld rd rs1 second) = rd ∷ []
registers_written (Load Ldub rd rs1 second) = rd ∷ []
registers_written (Load Lduh rd rs1 second) = rd ∷ []
registers_written (Load Ldd rd rs1 second) = rd ∷ (rd + 1) ∷ []
registers_written (Load Ldsb rd rs1 second) = rd ∷ []
registers_written (Load Ldsh rd rs1 second) = rd ∷ []
registers_written (Store kind rd rs1 second) = []
registers_written (Atomic swap rd rs1 second) = rd ∷ []
registers_written (FloatMem kind rd rs1 second) = []
registers_written (Unmodelled word) = []
registers_written (Unknown word) = []
registers_written (Multiply cc rd rs1 second) = rd ∷ []
registers_written (Divide cc rd rs1 second) = rd ∷ []

-- the registers that an instruction loads from memory: what a load, or a load and store in one, writes
abbrev pub registers_loaded : Instr → List ℕ
registers_loaded (Load kind rd rs1 second) = registers_written (Load kind rd rs1 second)
registers_loaded (Atomic swap rd rs1 second) = registers_written (Atomic swap rd rs1 second)
registers_loaded _ = []

-- the set of one register; r0, which is always 0, and numbers that are no register are never in it
abbrev pub bit_of : ℕ → ℕ
bit_of r = if nat_lt 0 r && nat_lt r 32 then 2 ^ r else 0

-- the set of these registers, bit r for register r
abbrev pub mask_of : List ℕ → ℕ
mask_of [] = 0
mask_of (r ∷ rs) = bit_or (bit_of r) (mask_of rs)

-- a set has exactly these registers, without r0
abbrev pub HasExactly : ℕ → List ℕ → Type 0
HasExactly mask registers = (r : ℕ) → IsBitSet mask r ↔ ((0 < r) × (r < 32) × Contains registers r)
