-- How registers, operands, conditions and operations are written.
use Rattle.std.specs.Prelude.{◌==◌, ℕ, ◌+◌, ◌/◌, ◌%◌, List, [], ◌∷◌, ◌++◌, nat_lt, if◌then◌else◌, codes, decimal}
use Rattle.std.specs.Fmt.{signed_decimal}
use Rattle.std.specs.Int.{is_negative}
use Rattle.bt_base.specs.Text.{hex8_of}
use Rattle.sparc_decode.specs.declared.instruction.AluOp.{AluOp}
use Rattle.sparc_decode.specs.declared.instruction.AluOp.TheVariants.{Add, And, Or, Xor, Sub, Andn, Orn, Xnor, Addx, Subx}
use Rattle.sparc_decode.specs.declared.instruction.FloatKind.{FloatKind}
use Rattle.sparc_decode.specs.declared.instruction.FloatKind.TheVariants.{Ldf, Ldfsr, Lddf, Stf, Stfsr, Stdf}
use Rattle.sparc_decode.specs.declared.instruction.LoadKind.{LoadKind}
use Rattle.sparc_decode.specs.declared.instruction.LoadKind.TheVariants.{Ld, Ldub, Lduh, Ldd, Ldsb, Ldsh}
use Rattle.sparc_decode.specs.declared.instruction.Second.{Second}
use Rattle.sparc_decode.specs.declared.instruction.Second.TheVariants.{Reg, Imm}
use Rattle.sparc_decode.specs.declared.instruction.ShiftOp.{ShiftOp}
use Rattle.sparc_decode.specs.declared.instruction.ShiftOp.TheVariants.{Sll, Srl, Sra}
use Rattle.sparc_decode.specs.declared.instruction.StoreKind.{StoreKind}
use Rattle.sparc_decode.specs.declared.instruction.StoreKind.TheVariants.{St, Stb, Sth, Std}
use Rattle.sparc_decode.specs.declared.instruction.TaggedOp.{TaggedOp}
use Rattle.sparc_decode.specs.declared.instruction.TaggedOp.TheVariants.{Taddcc, Tsubcc, Taddcctv, Tsubcctv}

-- a number as eight lower-case hexadecimal digits, the highest first
unfoldable pub hex8_text : ℕ → List ℕ
hex8_text n = hex8_of n

-- the letter of a group of eight registers: global, out, local and in
abbrev pub group_letter : ℕ → ℕ
group_letter group = if group == 0 then 103 else (if group == 1 then 111 else (if group == 2 then 108 else 105))

-- a register: a percent sign, the letter of its group and its number there, from %g0 to %i7
abbrev pub register : ℕ → List ℕ
register r = 37 ∷ group_letter (r / 8) ∷ (48 + r % 8) ∷ []

-- a register of the floating-point unit
abbrev pub float_register : ℕ → List ℕ
float_register f = codes "%f" ++ decimal f

-- the second operand: a register, or a number in decimal with a minus sign where it is negative
abbrev pub operand : Second → List ℕ
operand (Reg r) = register r
operand (Imm n) = signed_decimal n

-- what an address adds to its register: a register behind a plus sign, or a number with its sign
abbrev pub offset : Second → List ℕ
offset (Reg r) = codes "+" ++ register r
offset (Imm n) = if is_negative n then signed_decimal n else codes "+" ++ signed_decimal n

-- an address: its register, and what is added to it
abbrev pub address : ℕ → Second → List ℕ
address rs1 second = register rs1 ++ offset second

-- the first eight conditions
abbrev pub first_condition : ℕ → List ℕ
first_condition cond =
    if cond == 0 then codes "n"
    else (if cond == 1 then codes "e"
    else (if cond == 2 then codes "le"
    else (if cond == 3 then codes "l"
    else (if cond == 4 then codes "leu"
    else (if cond == 5 then codes "cs"
    else (if cond == 6 then codes "neg"
    else codes "vs"))))))

-- their negations, in the same order, from 8 on
abbrev pub negated_condition : ℕ → List ℕ
negated_condition cond =
    if cond == 8 then codes "a"
    else (if cond == 9 then codes "ne"
    else (if cond == 10 then codes "g"
    else (if cond == 11 then codes "ge"
    else (if cond == 12 then codes "gu"
    else (if cond == 13 then codes "cc"
    else (if cond == 14 then codes "pos"
    else codes "vc"))))))

-- a condition of the integer unit
abbrev pub condition : ℕ → List ℕ
condition cond = if nat_lt cond 8 then first_condition cond else negated_condition cond

abbrev pub alu_name : AluOp → List ℕ
alu_name Add = codes "add"
alu_name And = codes "and"
alu_name Or = codes "or"
alu_name Xor = codes "xor"
alu_name Sub = codes "sub"
alu_name Andn = codes "andn"
alu_name Orn = codes "orn"
alu_name Xnor = codes "xnor"
alu_name Addx = codes "addx"
alu_name Subx = codes "subx"

abbrev pub tagged_name : TaggedOp → List ℕ
tagged_name Taddcc = codes "taddcc"
tagged_name Tsubcc = codes "tsubcc"
tagged_name Taddcctv = codes "taddcctv"
tagged_name Tsubcctv = codes "tsubcctv"

abbrev pub shift_name : ShiftOp → List ℕ
shift_name Sll = codes "sll"
shift_name Srl = codes "srl"
shift_name Sra = codes "sra"

abbrev pub load_name : LoadKind → List ℕ
load_name Ld = codes "ld"
load_name Ldub = codes "ldub"
load_name Lduh = codes "lduh"
load_name Ldd = codes "ldd"
load_name Ldsb = codes "ldsb"
load_name Ldsh = codes "ldsh"

abbrev pub store_name : StoreKind → List ℕ
store_name St = codes "st"
store_name Stb = codes "stb"
store_name Sth = codes "sth"
store_name Std = codes "std"

abbrev pub float_name : FloatKind → List ℕ
float_name Ldf = codes "ldf"
float_name Ldfsr = codes "ldfsr"
float_name Lddf = codes "lddf"
float_name Stf = codes "stf"
float_name Stfsr = codes "stfsr"
float_name Stdf = codes "stdf"
