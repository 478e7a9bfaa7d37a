-- The tables of opcodes (SPARC Architecture Manual Version 7, "Opcodes"): one for each op, which is the
-- format of the word, over the field that selects the instruction.
use Rattle.std.specs.Prelude.{ℤ, ◌==◌, ℕ, Bool, true, false, List, [], ◌∷◌, if◌then◌else◌}
use Rattle.sparc_decode.specs.Row.{Row, row}
use Rattle.sparc_decode.specs.Word.{field, signed_field, second_of}
use Rattle.sparc_decode.specs.declared.instruction.AluOp.{AluOp}
use Rattle.sparc_decode.specs.declared.instruction.AluOp.TheVariants.{Add, And, Or, Xor, Sub, Andn, Orn, Xnor, Addx, Subx}
use Rattle.sparc_decode.specs.declared.instruction.FloatKind.{FloatKind}
use Rattle.sparc_decode.specs.declared.instruction.FloatKind.TheVariants.{Ldf, Ldfsr, Lddf, Stf, Stfsr, Stdf}
use Rattle.sparc_decode.specs.declared.instruction.Instr.{Instr}
use Rattle.sparc_decode.specs.declared.instruction.Instr.TheVariants.{Call, Unimp, Sethi, Branch, FloatBranch, Alu, Tagged, MulStep, Shift, ReadY}
use Rattle.sparc_decode.specs.declared.instruction.Instr.TheVariants.{WriteY, FloatOp, FloatCmp, Jmpl, Flush, Save, Restore, Ticc, Load, Store}
use Rattle.sparc_decode.specs.declared.instruction.Instr.TheVariants.{Atomic, FloatMem, Unmodelled, Multiply, Divide}
use Rattle.sparc_decode.specs.declared.instruction.LoadKind.{LoadKind}
use Rattle.sparc_decode.specs.declared.instruction.LoadKind.TheVariants.{Ld, Ldub, Lduh, Ldd, Ldsb, Ldsh}
use Rattle.sparc_decode.specs.declared.instruction.Second.{Second}
use Rattle.sparc_decode.specs.declared.instruction.ShiftOp.{ShiftOp}
use Rattle.sparc_decode.specs.declared.instruction.ShiftOp.TheVariants.{Sll, Srl, Sra}
use Rattle.sparc_decode.specs.declared.instruction.StoreKind.{StoreKind}
use Rattle.sparc_decode.specs.declared.instruction.StoreKind.TheVariants.{St, Stb, Sth, Std}
use Rattle.sparc_decode.specs.declared.instruction.TaggedOp.{TaggedOp}
use Rattle.sparc_decode.specs.declared.instruction.TaggedOp.TheVariants.{Taddcc, Tsubcc, Taddcctv, Tsubcctv}

-- an instruction with the operands rd, rs1 and second
abbrev pub triple : (ℕ → ℕ → Second → Instr) → ℕ → Instr
triple instruction word = instruction (field word 25 5) (field word 14 5) (second_of word)

-- an instruction with the operands rs1 and second
abbrev pub pair : (ℕ → Second → Instr) → ℕ → Instr
pair instruction word = instruction (field word 14 5) (second_of word)

-- a branch: its annul bit, its condition, and its displacement with its sign
abbrev pub branch : (Bool → ℕ → ℤ → Instr) → ℕ → Instr
branch instruction word = instruction (field word 29 1 == 1) (field word 25 4) (signed_field word 22)

abbrev pub alu : ℕ → AluOp → Bool → Row
alu op3 op cc = row (op3 ∷ []) (triple (Alu op cc))

abbrev pub tagged : ℕ → TaggedOp → Row
tagged op3 op = row (op3 ∷ []) (triple (Tagged op))

abbrev pub shift : ℕ → ShiftOp → Row
shift op3 op = row (op3 ∷ []) (triple (Shift op))

abbrev pub load : ℕ → LoadKind → Row
load op3 kind = row (op3 ∷ []) (triple (Load kind))

abbrev pub store : ℕ → StoreKind → Row
store op3 kind = row (op3 ∷ []) (triple (Store kind))

abbrev pub float : ℕ → FloatKind → Row
float op3 kind = row (op3 ∷ []) (triple (FloatMem kind))

-- op 0 over op2: branches, SETHI and UNIMP; op2 7 is the coprocessor's branch
abbrev pub branches : List Row
branches =
    row (0 ∷ []) (λ word. Unimp (field word 0 22))
    ∷ row (2 ∷ []) (branch Branch)
    ∷ row (4 ∷ []) (λ word. Sethi (field word 25 5) (field word 0 22))
    ∷ row (6 ∷ []) (branch FloatBranch)
    ∷ row (7 ∷ []) Unmodelled
    ∷ []

-- op 1 is CALL whatever follows
abbrev pub calls : List Row
calls = row (0 ∷ []) (λ word. Call (field word 0 30)) ∷ []

-- op 2 over op3: arithmetic, shifts, jumps, windows and traps; of Version 8 UMUL and SMUL, UDIV and SDIV, each with
-- and without condition codes
abbrev pub operations : List Row
operations =
    alu 0x00 Add false
    ∷ alu 0x01 And false
    ∷ alu 0x02 Or false
    ∷ alu 0x03 Xor false
    ∷ alu 0x04 Sub false
    ∷ alu 0x05 Andn false
    ∷ alu 0x06 Orn false
    ∷ alu 0x07 Xnor false
    ∷ alu 0x08 Addx false
    ∷ row (0x0a ∷ 0x0b ∷ []) (triple (Multiply false))
    ∷ alu 0x0c Subx false
    ∷ row (0x0e ∷ 0x0f ∷ []) (triple (Divide false))
    ∷ alu 0x10 Add true
    ∷ alu 0x11 And true
    ∷ alu 0x12 Or true
    ∷ alu 0x13 Xor true
    ∷ alu 0x14 Sub true
    ∷ alu 0x15 Andn true
    ∷ alu 0x16 Orn true
    ∷ alu 0x17 Xnor true
    ∷ alu 0x18 Addx true
    ∷ row (0x1a ∷ 0x1b ∷ []) (triple (Multiply true))
    ∷ alu 0x1c Subx true
    ∷ row (0x1e ∷ 0x1f ∷ []) (triple (Divide true))
    ∷ tagged 0x20 Taddcc
    ∷ tagged 0x21 Tsubcc
    ∷ tagged 0x22 Taddcctv
    ∷ tagged 0x23 Tsubcctv
    ∷ row (0x24 ∷ []) (triple MulStep)
    ∷ shift 0x25 Sll
    ∷ shift 0x26 Srl
    ∷ shift 0x27 Sra
    ∷ row (0x28 ∷ []) (λ word. ReadY (field word 25 5))
    ∷ row (0x30 ∷ []) (pair WriteY)
    ∷ row (0x34 ∷ []) FloatOp
    ∷ row (0x35 ∷ []) FloatCmp
    ∷ row (0x38 ∷ []) (triple Jmpl)
    ∷ row (0x3a ∷ []) (λ word. Ticc (field word 25 4) (field word 14 5) (second_of word))
    ∷ row (0x3b ∷ []) (pair Flush)
    ∷ row (0x3c ∷ []) (triple Save)
    ∷ row (0x3d ∷ []) (triple Restore)
    ∷ row (0x29 ∷ 0x2a ∷ 0x2b ∷ 0x31 ∷ 0x32 ∷ 0x33 ∷ 0x36 ∷ 0x37 ∷ 0x39 ∷ []) Unmodelled
    ∷ []

-- op 3 over op3: loads, stores and what does both
abbrev pub memory : List Row
memory =
    load 0x00 Ld
    ∷ load 0x01 Ldub
    ∷ load 0x02 Lduh
    ∷ load 0x03 Ldd
    ∷ load 0x09 Ldsb
    ∷ load 0x0a Ldsh
    ∷ store 0x04 St
    ∷ store 0x05 Stb
    ∷ store 0x06 Sth
    ∷ store 0x07 Std
    ∷ row (0x0d ∷ []) (triple (Atomic false))
    ∷ row (0x0f ∷ []) (triple (Atomic true))
    ∷ float 0x20 Ldf
    ∷ float 0x21 Ldfsr
    ∷ float 0x23 Lddf
    ∷ float 0x24 Stf
    ∷ float 0x25 Stfsr
    ∷ float 0x27 Stdf
    ∷ row (0x10 ∷ 0x11 ∷ 0x12 ∷ 0x13 ∷ 0x14 ∷ 0x15 ∷ 0x16 ∷ 0x17 ∷ []) Unmodelled
    ∷ row (0x19 ∷ 0x1a ∷ 0x1d ∷ 0x1f ∷ 0x26 ∷ []) Unmodelled
    ∷ row (0x30 ∷ 0x31 ∷ 0x32 ∷ 0x33 ∷ 0x34 ∷ 0x35 ∷ 0x36 ∷ 0x37 ∷ []) Unmodelled
    ∷ []

-- the table of an op
abbrev pub table_of : ℕ → List Row
table_of op = if op == 0 then branches else (if op == 1 then calls else (if op == 2 then operations else memory))

-- the field that selects within the table of an op; CALL has none
abbrev pub selector_of : ℕ → ℕ → ℕ
selector_of op word = if op == 0 then field word 22 3 else (if op == 1 then 0 else field word 19 6)
