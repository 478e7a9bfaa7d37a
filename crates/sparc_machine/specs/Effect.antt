-- What each instruction does to a machine over an image (SPARC Architecture Manual Version 7, "Instructions"). What
-- a step may freely find, in memory outside read-only sections, in the Y register and in the floating-point unit,
-- is a value of its own.
use Rattle.std.specs.Prelude.{◌==◌, ℕ, ◌+◌, ◌*◌, ◌/◌, ◌%◌, ◌^◌, ℤ, Bool, true, false, not, ◌&&◌, ◌||◌, List, Option}
use Rattle.std.specs.Prelude.{Some, None, nat_le, if◌then◌else◌, bit_and, bit_or, bit_xor}
use Rattle.std.specs.Int.{w32, cast_unsigned}
use Rattle.bt_image.specs.Image.{word, is_code}
use Rattle.cycle_table.specs.Class.{has_eight}
use Rattle.cycle_table.specs.Cycles.{cost_of, pair_of}
use Rattle.sparc_decode.specs.Instr.{instruction_of}
use Rattle.sparc_decode.specs.Register.{mask_of, registers_loaded}
use Rattle.sparc_decode.specs.declared.instruction.AluOp.{AluOp}
use Rattle.sparc_decode.specs.declared.instruction.AluOp.TheVariants.{Add, And, Or, Xor, Sub, Andn, Orn, Xnor, Addx, Subx}
use Rattle.sparc_decode.specs.declared.instruction.FloatKind.{FloatKind}
use Rattle.sparc_decode.specs.declared.instruction.Instr.{Instr}
use Rattle.sparc_decode.specs.declared.instruction.Instr.TheVariants.{Call, Unimp, Sethi, Branch, FloatBranch, Alu}
use Rattle.sparc_decode.specs.declared.instruction.Instr.TheVariants.{Tagged, MulStep, Shift, ReadY, WriteY, FloatOp}
use Rattle.sparc_decode.specs.declared.instruction.Instr.TheVariants.{FloatCmp, Jmpl, Flush, Save, Restore, Ticc, Load}
use Rattle.sparc_decode.specs.declared.instruction.Instr.TheVariants.{Store, Atomic, FloatMem}
use Rattle.sparc_decode.specs.declared.instruction.Instr.TheVariants.{Unmodelled as UnmodelledWord, Unknown, Multiply}
use Rattle.sparc_decode.specs.declared.instruction.Instr.TheVariants.{Divide}
use Rattle.sparc_decode.specs.declared.instruction.LoadKind.{LoadKind}
use Rattle.sparc_decode.specs.declared.instruction.LoadKind.TheVariants.{Ld, Ldub, Lduh, Ldd, Ldsb, Ldsh}
use Rattle.sparc_decode.specs.declared.instruction.Second.{Second}
use Rattle.sparc_decode.specs.declared.instruction.ShiftOp.{ShiftOp}
use Rattle.sparc_decode.specs.declared.instruction.ShiftOp.TheVariants.{Sll, Srl, Sra}
use Rattle.sparc_decode.specs.declared.instruction.StoreKind.{StoreKind}
use Rattle.sparc_decode.specs.declared.instruction.StoreKind.TheVariants.{Std}
use Rattle.sparc_decode.specs.declared.instruction.TaggedOp.{TaggedOp}
use Rattle.sparc_decode.specs.declared.instruction.TaggedOp.TheVariants.{Taddcc, Tsubcc, Taddcctv, Tsubcctv}
use Rattle.sparc_machine.specs.Machine.{register_of, with_register, operand_of, going_to, advanced, charged}
use Rattle.sparc_machine.specs.Memory.{load_size, store_size, float_size, atomic_size, is_float_store, constant_bytes}
use Rattle.sparc_machine.specs.Memory.{touches, read_number, extended, first_word, second_word}
use Rattle.sparc_machine.specs.Outcome.{Outcome, Stepped, Stopped}
use Rattle.sparc_machine.specs.declared.free.Free.{Free}
use Rattle.sparc_machine.specs.declared.machine.Machine.{Machine}
use Rattle.sparc_machine.specs.declared.trap.Trap.{Trap}
use Rattle.sparc_machine.specs.declared.trap.Trap.TheVariants.{Fetch, Unmodelled, Misaligned, ReadOnlyStore, Overflow, Underflow}
use Rattle.word_ops.specs.Condition.{holds_of}
use Rattle.word_ops.specs.Flags.{sum_flags_of, difference_flags_of, logic_flags_of}
use Rattle.word_ops.specs.Word.{sum_of, difference_of, complement_of, shifted_left, shifted_right, shifted_right_signed}
pub use Rattle.word_ops.specs.Word.{product_of}
use Rattle.word_ops.specs.declared.arithmetic.Flags.{Flags}

-- what an instruction comes to: the machine after it, and whether the instruction behind it was annulled; or a trap
pub data Effect : Type 0 where
  Done : (m : Machine) → (annulled : Bool) → Effect
  Trapped : (trap : Trap) → Effect

-- the machine goes on to the instruction behind this one
abbrev pub goes_on : Machine → Effect
goes_on m = Done (advanced m) false

-- the condition codes of a machine
abbrev pub flags_in : Machine → Flags
flags_in m = record { n = m.n; z = m.z; v = m.v; c = m.c }

-- the machine with these condition codes
abbrev pub with_flags : Machine → Flags → Machine
with_flags m f = record m { n = f.n; z = f.z; v = f.v; c = f.c }

-- the condition codes that four bits spell, N the highest
abbrev pub flags_from : ℕ → Flags
flags_from bits = record { n = nat_le 8 bits; z = bits / 4 % 2 == 1; v = bits / 2 % 2 == 1; c = bits % 2 == 1 }

-- whether the instruction is the one behind that before it: no transfer stands in a delay slot
abbrev pub is_in_order : Machine → Bool
is_in_order m = m.npc == (m.pc + 4) % 2 ^ 32

-- a transfer in its place, or a trap
abbrev pub in_order : Machine → Effect → Effect
in_order m effect = if is_in_order m then effect else Trapped Unmodelled

-- the address of a displacement of words
abbrev pub target_of : ℕ → ℤ → ℕ
target_of pc disp = (pc + cast_unsigned w32 disp * 4) % 2 ^ 32

-- the sum of a register and the second operand
abbrev pub address_in : Machine → ℕ → Second → ℕ
address_in m rs1 second = (register_of m rs1 + operand_of m second) % 2 ^ 32

-- the result of an operation over two words and the carry
abbrev pub alu_result : AluOp → ℕ → ℕ → Bool → ℕ
alu_result Add x y c = sum_of x y false
alu_result And x y c = bit_and x y
alu_result Or x y c = bit_or x y
alu_result Xor x y c = bit_xor x y
alu_result Sub x y c = difference_of x y false
alu_result Andn x y c = bit_and x (complement_of y)
alu_result Orn x y c = bit_or x (complement_of y)
alu_result Xnor x y c = complement_of (bit_xor x y)
alu_result Addx x y c = sum_of x y c
alu_result Subx x y c = difference_of x y c

-- the condition codes that it sets with cc
abbrev pub alu_flags : AluOp → ℕ → ℕ → Bool → Flags
alu_flags Add x y c = sum_flags_of x y false
alu_flags And x y c = logic_flags_of (bit_and x y)
alu_flags Or x y c = logic_flags_of (bit_or x y)
alu_flags Xor x y c = logic_flags_of (bit_xor x y)
alu_flags Sub x y c = difference_flags_of x y false
alu_flags Andn x y c = logic_flags_of (bit_and x (complement_of y))
alu_flags Orn x y c = logic_flags_of (bit_or x (complement_of y))
alu_flags Xnor x y c = logic_flags_of (complement_of (bit_xor x y))
alu_flags Addx x y c = sum_flags_of x y c
alu_flags Subx x y c = difference_flags_of x y c

-- an operation writes its result, and its condition codes with cc
abbrev pub operated : Machine → AluOp → Bool → ℕ → ℕ → ℕ → Effect
operated m op true rd x y = goes_on (with_register (with_flags m (alu_flags op x y m.c)) rd (alu_result op x y m.c))
operated m op false rd x y = goes_on (with_register m rd (alu_result op x y m.c))

-- a tagged operation writes its sum or difference; its condition codes are free, and it doesn't trap
abbrev pub tagged_result : TaggedOp → ℕ → ℕ → ℕ
tagged_result Taddcc x y = sum_of x y false
tagged_result Tsubcc x y = difference_of x y false
tagged_result Taddcctv x y = sum_of x y false
tagged_result Tsubcctv x y = difference_of x y false

abbrev pub shift_result : ShiftOp → ℕ → ℕ → ℕ
shift_result Sll x y = shifted_left x y
shift_result Srl x y = shifted_right x y
shift_result Sra x y = shifted_right_signed x y

-- a branch: taken it goes to its target behind its delay instruction, untaken it goes on; with the annul bit an
-- untaken branch and one that is always taken pass their delay instruction over
abbrev pub branched : Machine → Bool → Bool → Bool → ℕ → Effect
branched m annul always true target =
    if annul && always then Done (record m { pc = target; npc = (target + 4) % 2 ^ 32 }) true else Done (going_to m target) false
branched m annul always false target =
    if annul then Done (record m { pc = (m.pc + 8) % 2 ^ 32; npc = (m.pc + 12) % 2 ^ 32 }) true else goes_on m

-- whether a branch of the floating-point unit is taken: 8 is always and 0 never, and any other is free
abbrev pub float_taken : ℕ → Bool → Bool
float_taken cond free = (cond == 8) || (not (cond == 0) && free)

-- a jump leaves its own address in rd, and goes to its target behind its delay instruction
abbrev pub jumped : Machine → ℕ → ℕ → Effect
jumped m rd target =
    if target % 4 == 0 then Done (going_to (with_register m rd m.pc) target) false else Trapped Misaligned

-- whether a window is marked as invalid
abbrev pub is_invalid : ℕ → ℕ → Bool
is_invalid wim window = wim / 2 ^ window % 2 == 1

-- a change to another window writes a sum, made in the old one, into the new one; an invalid window is a trap
abbrev pub turned : Machine → ℕ → Trap → ℕ → ℕ → Effect
turned m window trap rd value =
    if is_invalid m.wim window then Trapped trap else goes_on (with_register (record m { cwp = window }) rd value)

-- the machine with condition codes that are free, where the instruction sets them
abbrev pub freely_flagged : Machine → Free → Bool → Machine
freely_flagged m free true = with_flags m (flags_from free.flags)
freely_flagged m free false = m

-- a double word is read into rd and the register behind it
abbrev pub read_double : List ℕ → Free → Machine → ℕ → ℕ → Effect
read_double image free m rd address =
    let these = constant_bytes image address 8 in
    goes_on (with_register (with_register m rd (first_word these free.first)) (rd + 1) (second_word these free.second))

-- a load of less than a double word writes what it reads, with zeros or its sign above it
abbrev pub read_one : List ℕ → Free → Machine → LoadKind → ℕ → ℕ → Effect
read_one image free m kind rd address =
    goes_on (with_register m rd (extended kind (read_number (constant_bytes image address (load_size kind)) (load_size kind) free.first)))

abbrev pub read_into : List ℕ → Free → Machine → LoadKind → ℕ → ℕ → Effect
read_into image free m Ld rd address = read_one image free m Ld rd address
read_into image free m Ldub rd address = read_one image free m Ldub rd address
read_into image free m Lduh rd address = read_one image free m Lduh rd address
read_into image free m Ldd rd address = read_double image free m rd address
read_into image free m Ldsb rd address = read_one image free m Ldsb rd address
read_into image free m Ldsh rd address = read_one image free m Ldsh rd address

-- a double word needs an even register
abbrev pub is_odd_double_load : LoadKind → ℕ → Bool
is_odd_double_load Ldd rd = rd % 2 == 1
is_odd_double_load _ rd = false

abbrev pub is_odd_double_store : StoreKind → ℕ → Bool
is_odd_double_store Std rd = rd % 2 == 1
is_odd_double_store _ rd = false

-- a call leaves its own address in r15, and goes to its target behind its delay instruction
abbrev pub called : Machine → ℕ → Effect
called m target = in_order m (Done (going_to (with_register m 15 m.pc) target) false)

-- a branch in its place
abbrev pub branch_effect : Machine → Bool → ℕ → Bool → ℤ → Effect
branch_effect m annul cond taken disp = in_order m (branched m annul (cond == 8) taken (target_of m.pc disp))

-- a load at an address that is a multiple of its size
abbrev pub load_effect : List ℕ → Free → Machine → LoadKind → ℕ → ℕ → Effect
load_effect image free m kind rd address =
    if is_odd_double_load kind rd then Trapped Unmodelled
    else (if address % load_size kind == 0 then read_into image free m kind rd address else Trapped Misaligned)

-- the trap that a write of so many bytes is, if it is one: it isn't aligned, or touches a read-only byte
abbrev pub write_trap : List ℕ → ℕ → ℕ → Option Trap
write_trap image address size =
    if address % size == 0 then (if touches image address size then Some ReadOnlyStore else None) else Some Misaligned

-- an effect that a trap may come before
abbrev pub unless_trapped : Option Trap → Effect → Effect
unless_trapped None effect = effect
unless_trapped (Some trap) effect = Trapped trap

-- a store; what it writes isn't kept
abbrev pub store_effect : List ℕ → Machine → StoreKind → ℕ → ℕ → Effect
store_effect image m kind rd address =
    if is_odd_double_store kind rd then Trapped Unmodelled
    else unless_trapped (write_trap image address (store_size kind)) (goes_on m)

-- a load and a store in one, which reads a free word or its low byte
abbrev pub atomic_effect : List ℕ → Free → Machine → Bool → ℕ → ℕ → Effect
atomic_effect image free m swap rd address =
    unless_trapped (write_trap image address (atomic_size swap))
    (goes_on (with_register m rd (if swap then free.first else free.first % 2 ^ 8)))

-- a load or a store of the floating-point unit, whose registers aren't kept
abbrev pub float_effect : List ℕ → Machine → FloatKind → ℕ → Effect
float_effect image m kind address =
    if is_float_store kind then unless_trapped (write_trap image address (float_size kind)) (goes_on m)
    else (if address % float_size kind == 0 then goes_on m else Trapped Misaligned)

-- what an instruction does
abbrev pub effect_of : List ℕ → Free → Machine → Instr → Effect
effect_of image free m (Call disp) = called m ((m.pc + disp * 4) % 2 ^ 32)
effect_of image free m (Unimp imm) = Trapped Unmodelled
effect_of image free m (Sethi rd imm) = goes_on (with_register m rd (imm * 1024))
effect_of image free m (Branch annul cond disp) = branch_effect m annul cond (holds_of cond (flags_in m)) disp
effect_of image free m (FloatBranch annul cond disp) = branch_effect m annul cond (float_taken cond free.taken) disp
effect_of image free m (Alu op cc rd rs1 second) = operated m op cc rd (register_of m rs1) (operand_of m second)
effect_of image free m (Tagged op rd rs1 second) =
    goes_on (with_register (with_flags m (flags_from free.flags)) rd (tagged_result op (register_of m rs1) (operand_of m second)))
effect_of image free m (MulStep rd rs1 second) = goes_on (with_register (with_flags m (flags_from free.flags)) rd free.first)
effect_of image free m (Shift op rd rs1 second) = goes_on (with_register m rd (shift_result op (register_of m rs1) (operand_of m second)))
effect_of image free m (ReadY rd) = goes_on (with_register m rd free.first)
effect_of image free m (WriteY rs1 second) = goes_on m
effect_of image free m (FloatOp these) = goes_on m
effect_of image free m (FloatCmp these) = goes_on m
effect_of image free m (Jmpl rd rs1 second) = in_order m (jumped m rd (address_in m rs1 second))
effect_of image free m (Flush rs1 second) = goes_on m
effect_of image free m (Save rd rs1 second) = turned m ((m.cwp + 7) % 8) Overflow rd (address_in m rs1 second)
effect_of image free m (Restore rd rs1 second) = turned m ((m.cwp + 1) % 8) Underflow rd (address_in m rs1 second)
effect_of image free m (Ticc cond rs1 second) = if cond == 0 then goes_on m else Trapped Unmodelled
effect_of image free m (Load kind rd rs1 second) = load_effect image free m kind rd (address_in m rs1 second)
effect_of image free m (Store kind rd rs1 second) = store_effect image m kind rd (address_in m rs1 second)
effect_of image free m (Atomic swap rd rs1 second) = atomic_effect image free m swap rd (address_in m rs1 second)
effect_of image free m (FloatMem kind rd rs1 second) = float_effect image m kind (address_in m rs1 second)
effect_of image free m (UnmodelledWord these) = Trapped Unmodelled
effect_of image free m (Unknown these) = Trapped Unmodelled
effect_of image free m (Multiply cc rd rs1 second) =
    goes_on (with_register (freely_flagged m free cc) rd (product_of (register_of m rs1) (operand_of m second)))
effect_of image free m (Divide cc rd rs1 second) = goes_on (with_register (freely_flagged m free cc) rd free.first)

-- whether tables of a version have costs of an instruction: multiplications and divisions only those of version 2, which
-- is `eight`
abbrev pub is_in_version : Bool → Instr → Bool
is_in_version eight (Multiply cc rd rs1 second) = eight
is_in_version eight (Divide cc rd rs1 second) = eight
is_in_version eight _ = true

-- the word of code at an address
abbrev pub code_word : List ℕ → ℕ → Option ℕ
code_word image address = if is_code image address then word image address else None

-- what an instruction costs: its class, what it annuls, and what it reads right behind its load; before it these
-- registers were loaded
abbrev pub step_cost : List ℕ → ℕ → Instr → Bool → ℕ
step_cost cycles before instruction annulled = cost_of cycles instruction annulled + pair_of cycles before instruction

-- an effect at its cost
abbrev pub paid : List ℕ → ℕ → Instr → Effect → Outcome
paid cycles before instruction (Done m annulled) =
    Stepped (charged m (step_cost cycles before instruction annulled) (mask_of (registers_loaded instruction)))
paid cycles before instruction (Trapped trap) = Stopped trap

-- an outcome, or a trap where the table's version has no cost of the instruction
abbrev pub modelled : Bool → Outcome → Outcome
modelled true outcome = outcome
modelled false outcome = Stopped Unmodelled

-- what the step of an instruction comes to
abbrev pub performed : List ℕ → List ℕ → Free → Machine → Instr → Outcome
performed image cycles free m instruction =
    modelled (is_in_version (has_eight cycles) instruction) (paid cycles m.loaded instruction (effect_of image free m instruction))

-- what a step over an image with a table of cycles comes to, where it finds these free values: the effect of the
-- word at the program counter, at its cost
abbrev pub stepped_from : List ℕ → List ℕ → Free → Machine → Option ℕ → Outcome
stepped_from image cycles free m None = Stopped Fetch
stepped_from image cycles free m (Some these) = performed image cycles free m (instruction_of these)

abbrev pub step_of : List ℕ → List ℕ → Free → Machine → Outcome
step_of image cycles free m = stepped_from image cycles free m (code_word image m.pc)
