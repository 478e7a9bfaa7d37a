-- The text of a line has characters of ASCII alone.
use Rattle.std.proofs.Common.{◌≡◌, ℕ, ◌%◌, ◌^◌, ◌<◌, ℤ, pos, negsuc, Bool, true, false, List, [], ◌∷◌, ◌++◌, arith, rules, refl, codes, if◌then◌else◌}
use Rattle.std.specs.Prelude.{◌==◌, ◌&&◌, nat_lt, decimal}
use Rattle.std.specs.Fmt.{signed_decimal}
use Rattle.std.specs.Int.{is_negative}
use Rattle.std.proofs.lemmas.Bool.{and_parts}
use Rattle.std.proofs.lemmas.Bool.Decides.{nat_tests}
use Rattle.std.proofs.lemmas.Fmt.{IsAscii-decimal, IsAscii-signed}
use Rattle.std.proofs.lemmas.Str.{IsAscii-append, IsUtf8-from_ascii}
use Rattle.std.proofs.lemmas.Str.Ascii.{IsAscii-nil, IsAscii-cons}
use Rattle.std.specs.Str.{IsAscii, IsUtf8}
use Rattle.bt_base.specs.Text.{hex_digit}
use Rattle.sparc_decode.specs.Instr.{IsOperand, InRange, instruction_of}
use Rattle.sparc_decode.specs.Word.{IsSigned}
use Rattle.sparc_decode.specs.declared.instruction.AluOp.{AluOp}
use Rattle.sparc_decode.specs.declared.instruction.AluOp.TheVariants.{Add, And, Or, Xor, Sub, Andn, Orn, Xnor, Addx, Subx}
use Rattle.sparc_decode.specs.declared.instruction.FloatKind.{FloatKind}
use Rattle.sparc_decode.specs.declared.instruction.FloatKind.TheVariants.{Ldf, Ldfsr, Lddf, Stf, Stfsr, Stdf}
use Rattle.sparc_decode.specs.declared.instruction.Instr.{Instr}
use Rattle.sparc_decode.specs.declared.instruction.Instr.TheVariants.{Call, Unimp, Sethi, Branch, FloatBranch, Alu, Tagged, MulStep, Shift, ReadY}
use Rattle.sparc_decode.specs.declared.instruction.Instr.TheVariants.{WriteY, FloatOp, FloatCmp, Jmpl, Flush, Save, Restore, Ticc, Load, Store}
use Rattle.sparc_decode.specs.declared.instruction.Instr.TheVariants.{Atomic, FloatMem, Unmodelled, Unknown, Multiply, Divide}
use Rattle.sparc_decode.specs.declared.instruction.LoadKind.{LoadKind}
use Rattle.sparc_decode.specs.declared.instruction.LoadKind.TheVariants.{Ld, Ldub, Lduh, Ldd, Ldsb, Ldsh}
use Rattle.sparc_decode.specs.declared.instruction.Second.{Second}
use Rattle.sparc_decode.specs.declared.instruction.Second.TheVariants.{Reg, Imm}
use Rattle.sparc_decode.specs.declared.instruction.ShiftOp.{ShiftOp}
use Rattle.sparc_decode.specs.declared.instruction.ShiftOp.TheVariants.{Sll, Srl, Sra}
use Rattle.sparc_decode.specs.declared.instruction.StoreKind.{StoreKind}
use Rattle.sparc_decode.specs.declared.instruction.StoreKind.TheVariants.{St, Stb, Sth, Std}
use Rattle.sparc_decode.specs.declared.instruction.TaggedOp.{TaggedOp}
use Rattle.sparc_decode.specs.declared.instruction.TaggedOp.TheVariants.{Taddcc, Tsubcc, Taddcctv, Tsubcctv}
use Rattle.sparc_text.specs.Listing.{line_of}
use Rattle.sparc_text.specs.Names.{hex8_text, group_letter, register, float_register, operand, offset, address, first_condition, negated_condition}
use Rattle.sparc_text.specs.Names.{condition, alu_name, tagged_name, shift_name, load_name, store_name, float_name}
use Rattle.sparc_text.specs.Text.{branch_target, call_target, operands, hexadecimal, memory, loaded, stored, branching, float_operands, word_text, text_of}

-- the characters of a text are ASCII
record IsPlain (text : List ℕ) : Type 0 where
  ascii : IsAscii text

-- the same by a test
abbrev passes : List ℕ → Bool
passes [] = true
passes (b ∷ bs) = nat_lt b 128 && passes bs

ascii_from_test : (bs : List ℕ) → passes bs ≡ true → IsAscii bs
ascii_from_test [] h = IsAscii-nil
ascii_from_test (b ∷ bs) h =
    let both = and_parts (nat_lt b 128) (passes bs) h in IsAscii-cons b bs (grind (arith, nat_tests, both.0)) (ascii_from_test bs both.1)

literal : (text : List ℕ) → passes text ≡ true → IsPlain text
literal text h = record { ascii = ascii_from_test text h }

both : {xs ys : List ℕ} → IsPlain xs → IsPlain ys → IsPlain (xs ++ ys)
both first second = record { ascii = IsAscii-append _ _ first.ascii second.ascii }

either : (b : Bool) {xs ys : List ℕ} → IsPlain xs → IsPlain ys → IsPlain (if b then xs else ys)
either true first second = first
either false first second = second

space : IsPlain (codes " ")
space = literal (codes " ") refl

comma : IsPlain (codes ", ")
comma = literal (codes ", ") refl

digit_ascii : (n : ℕ) → hex_digit (n % 16) < 128
digit_ascii n = grind arith

hex8_ascii : (n : ℕ) → IsAscii (hex8_text n)
unfolding hex8_text
hex8_ascii n = search (rules, IsAscii-cons, IsAscii-nil, digit_ascii)

hex8 : (n : ℕ) → IsPlain (hex8_text n)
hex8 n = record { ascii = hex8_ascii n }

letter_ascii : (group : ℕ) → group_letter group < 128
letter_ascii group = grind arith

register_ascii : (r : ℕ) → IsAscii (register r)
register_ascii r = search (rules, IsAscii-cons, IsAscii-nil, letter_ascii)

register_plain : (r : ℕ) → IsPlain (register r)
register_plain r = record { ascii = register_ascii r }

decimal_plain : (n : ℕ) → n < 2 ^ 64 → IsPlain (decimal n)
decimal_plain n small = record { ascii = IsAscii-decimal n small }

float_register_plain : (f : ℕ) → f < 32 → IsPlain (float_register f)
float_register_plain f small = both (literal (codes "%f") refl) (decimal_plain f (omega arith))

number_plain : (n : ℤ) → IsSigned n 13 → IsPlain (signed_decimal n)
number_plain (pos m) small = record { ascii = IsAscii-signed (pos m) (let below = small.1 in grind arith) }
number_plain (negsuc m) small = record { ascii = IsAscii-signed (negsuc m) (let above = small.0 in grind arith) }

operand_plain : (second : Second) → IsOperand second → IsPlain (operand second)
operand_plain (Reg r) h = register_plain r
operand_plain (Imm n) h = number_plain n h

offset_plain : (second : Second) → IsOperand second → IsPlain (offset second)
offset_plain (Reg r) h = both (literal (codes "+") refl) (register_plain r)
offset_plain (Imm n) h = either (is_negative n) (number_plain n h) (both (literal (codes "+") refl) (number_plain n h))

address_plain : (rs1 : ℕ) (second : Second) → IsOperand second → IsPlain (address rs1 second)
address_plain rs1 second h = both (register_plain rs1) (offset_plain second h)

first_plain : (cond : ℕ) → IsPlain (first_condition cond)
first_plain cond =
    either (cond == 0) (literal (codes "n") refl)
    (either (cond == 1) (literal (codes "e") refl)
    (either (cond == 2) (literal (codes "le") refl)
    (either (cond == 3) (literal (codes "l") refl)
    (either (cond == 4) (literal (codes "leu") refl)
    (either (cond == 5) (literal (codes "cs") refl)
    (either (cond == 6) (literal (codes "neg") refl) (literal (codes "vs") refl)))))))

negated_plain : (cond : ℕ) → IsPlain (negated_condition cond)
negated_plain cond =
    either (cond == 8) (literal (codes "a") refl)
    (either (cond == 9) (literal (codes "ne") refl)
    (either (cond == 10) (literal (codes "g") refl)
    (either (cond == 11) (literal (codes "ge") refl)
    (either (cond == 12) (literal (codes "gu") refl)
    (either (cond == 13) (literal (codes "cc") refl)
    (either (cond == 14) (literal (codes "pos") refl) (literal (codes "vc") refl)))))))

condition_plain : (cond : ℕ) → IsPlain (condition cond)
condition_plain cond = either (nat_lt cond 8) (first_plain cond) (negated_plain cond)

alu_plain : (x : AluOp) → IsPlain (alu_name x)
alu_plain Add = literal (codes "add") refl
alu_plain And = literal (codes "and") refl
alu_plain Or = literal (codes "or") refl
alu_plain Xor = literal (codes "xor") refl
alu_plain Sub = literal (codes "sub") refl
alu_plain Andn = literal (codes "andn") refl
alu_plain Orn = literal (codes "orn") refl
alu_plain Xnor = literal (codes "xnor") refl
alu_plain Addx = literal (codes "addx") refl
alu_plain Subx = literal (codes "subx") refl

tagged_plain : (x : TaggedOp) → IsPlain (tagged_name x)
tagged_plain Taddcc = literal (codes "taddcc") refl
tagged_plain Tsubcc = literal (codes "tsubcc") refl
tagged_plain Taddcctv = literal (codes "taddcctv") refl
tagged_plain Tsubcctv = literal (codes "tsubcctv") refl

shift_plain : (x : ShiftOp) → IsPlain (shift_name x)
shift_plain Sll = literal (codes "sll") refl
shift_plain Srl = literal (codes "srl") refl
shift_plain Sra = literal (codes "sra") refl

load_plain : (x : LoadKind) → IsPlain (load_name x)
load_plain Ld = literal (codes "ld") refl
load_plain Ldub = literal (codes "ldub") refl
load_plain Lduh = literal (codes "lduh") refl
load_plain Ldd = literal (codes "ldd") refl
load_plain Ldsb = literal (codes "ldsb") refl
load_plain Ldsh = literal (codes "ldsh") refl

store_plain : (x : StoreKind) → IsPlain (store_name x)
store_plain St = literal (codes "st") refl
store_plain Stb = literal (codes "stb") refl
store_plain Sth = literal (codes "sth") refl
store_plain Std = literal (codes "std") refl

float_plain : (x : FloatKind) → IsPlain (float_name x)
float_plain Ldf = literal (codes "ldf") refl
float_plain Ldfsr = literal (codes "ldfsr") refl
float_plain Lddf = literal (codes "lddf") refl
float_plain Stf = literal (codes "stf") refl
float_plain Stfsr = literal (codes "stfsr") refl
float_plain Stdf = literal (codes "stdf") refl

operands_plain : (rd rs1 : ℕ) (second : Second) → IsOperand second → IsPlain (operands rd rs1 second)
operands_plain rd rs1 second h = both space (both (register_plain rs1) (both comma (both (operand_plain second h) (both comma (register_plain rd)))))

hexadecimal_plain : (n : ℕ) → IsPlain (hexadecimal n)
hexadecimal_plain n = both (literal (codes "0x") refl) (hex8 n)

memory_plain : (rs1 : ℕ) (second : Second) → IsOperand second → IsPlain (memory rs1 second)
memory_plain rs1 second h = both (literal (codes "[") refl) (both (address_plain rs1 second h) (literal (codes "]") refl))

loaded_plain : {target : List ℕ} (rs1 : ℕ) (second : Second) → IsPlain target → IsOperand second → IsPlain (loaded target rs1 second)
loaded_plain rs1 second t h = both space (both (memory_plain rs1 second h) (both comma t))

stored_plain : {source : List ℕ} (rs1 : ℕ) (second : Second) → IsPlain source → IsOperand second → IsPlain (stored source rs1 second)
stored_plain rs1 second t h = both space (both t (both comma (memory_plain rs1 second h)))

branching_plain : (annul : Bool) (target : ℕ) → IsPlain (branching annul target)
branching_plain annul target = both (either annul (literal (codes ",a ") refl) space) (hex8 target)

float_operands_plain : (kind : FloatKind) (rd rs1 : ℕ) (second : Second) → rd < 32 → IsOperand second → IsPlain (float_operands kind rd rs1 second)
float_operands_plain Ldf rd rs1 second r h = loaded_plain rs1 second (float_register_plain rd r) h
float_operands_plain Ldfsr rd rs1 second r h = both space (memory_plain rs1 second h)
float_operands_plain Lddf rd rs1 second r h = loaded_plain rs1 second (float_register_plain rd r) h
float_operands_plain Stf rd rs1 second r h = stored_plain rs1 second (float_register_plain rd r) h
float_operands_plain Stfsr rd rs1 second r h = both space (memory_plain rs1 second h)
float_operands_plain Stdf rd rs1 second r h = stored_plain rs1 second (float_register_plain rd r) h

word_plain : (word : ℕ) → IsPlain (word_text word)
word_plain word = both (literal (codes ".word ") refl) (hexadecimal_plain word)

text_plain : (at these : ℕ) (i : Instr) → InRange i → IsPlain (text_of at these i)
text_plain at these (Call disp) h = both (literal (codes "call ") refl) (hex8 (call_target at disp))
text_plain at these (Unimp imm) h = both (literal (codes "unimp ") refl) (hexadecimal_plain imm)
text_plain at these (Sethi rd imm) h = both (literal (codes "sethi ") refl) (both (hexadecimal_plain imm) (both comma (register_plain rd)))
text_plain at these (Branch annul cond disp) h = both (literal (codes "b") refl) (both (condition_plain cond) (branching_plain annul (branch_target at disp)))
text_plain at these (FloatBranch annul cond disp) h =
    both (literal (codes "fb") refl) (both (decimal_plain cond (let small = h.0 in omega arith)) (branching_plain annul (branch_target at disp)))
text_plain at these (Alu op cc rd rs1 second) h =
    both (alu_plain op) (both (either cc (literal (codes "cc") refl) (literal [] refl)) (operands_plain rd rs1 second h.2))
text_plain at these (Tagged op rd rs1 second) h = both (tagged_plain op) (operands_plain rd rs1 second h.2)
text_plain at these (MulStep rd rs1 second) h = both (literal (codes "mulscc") refl) (operands_plain rd rs1 second h.2)
text_plain at these (Shift op rd rs1 second) h = both (shift_plain op) (operands_plain rd rs1 second h.2)
text_plain at these (ReadY rd) h = both (literal (codes "rdy ") refl) (register_plain rd)
text_plain at these (WriteY rs1 second) h = both (literal (codes "wry ") refl) (both (register_plain rs1) (both comma (operand_plain second h.1)))
text_plain at these (FloatOp word) h = word_plain word
text_plain at these (FloatCmp word) h = word_plain word
text_plain at these (Jmpl rd rs1 second) h =
    both (literal (codes "jmpl ") refl) (both (address_plain rs1 second h.2) (both comma (register_plain rd)))
text_plain at these (Flush rs1 second) h = both (literal (codes "iflush ") refl) (address_plain rs1 second h.1)
text_plain at these (Save rd rs1 second) h = both (literal (codes "save") refl) (operands_plain rd rs1 second h.2)
text_plain at these (Restore rd rs1 second) h = both (literal (codes "restore") refl) (operands_plain rd rs1 second h.2)
text_plain at these (Ticc cond rs1 second) h = both (literal (codes "t") refl) (both (condition_plain cond) (both space (address_plain rs1 second h.2)))
text_plain at these (Load kind rd rs1 second) h = both (load_plain kind) (loaded_plain rs1 second (register_plain rd) h.2)
text_plain at these (Store kind rd rs1 second) h = both (store_plain kind) (stored_plain rs1 second (register_plain rd) h.2)
text_plain at these (Atomic swap rd rs1 second) h =
    both (either swap (literal (codes "swap") refl) (literal (codes "ldstub") refl)) (loaded_plain rs1 second (register_plain rd) h.2)
text_plain at these (FloatMem kind rd rs1 second) h = both (float_plain kind) (float_operands_plain kind rd rs1 second h.0 h.2)
text_plain at these (Unmodelled word) h = word_plain word
text_plain at these (Unknown word) h = word_plain word
text_plain at these (Multiply cc rd rs1 second) h = word_plain these
text_plain at these (Divide cc rd rs1 second) h = word_plain these

line_plain : (at word : ℕ) → InRange (instruction_of word) → IsPlain (line_of at word)
unfolding line_of
line_plain at word h = both (hex8 at) (both space (both (hex8 word) (both space (text_plain at word (instruction_of word) h))))

-- the line of a word is text
pub line_utf8 : (at word : ℕ) → InRange (instruction_of word) → IsUtf8 (line_of at word)
line_utf8 at word h = IsUtf8-from_ascii (line_of at word) (line_plain at word h).ascii
