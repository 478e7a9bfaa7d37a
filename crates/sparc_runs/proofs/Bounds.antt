-- What a machine reads and computes are words.
use Rattle.std.proofs.Common.{◌≡◌, ℕ, pos, negsuc, ◌+◌, ◌-◌, ◌%◌, ◌^◌, ◌<◌, Bool, true, false, List, Option, Some, None}
use Rattle.std.proofs.Common.{All, refl, sym, subst, arith, cond, eqb, inl, inr, take, drop, length}
use Rattle.std.specs.Prelude.{slice_index, bit_xor, nat_lt}
use Rattle.std.specs.Option.{option_map}
use Rattle.std.proofs.Math.Nat.{div-le_self}
use Rattle.std.proofs.lemmas.Bool.{cases_lt}
use Rattle.std.proofs.lemmas.Int.{ints}
use Rattle.std.proofs.lemmas.List.{get_or_past}
use Rattle.std.proofs.lemmas.List.Elements.{All-take, All-drop}
use Rattle.std.proofs.lemmas.Nat.{and_le_l, or_of_32, xor_of_32}
use Rattle.bt_image.specs.Image.{held, holder, place_in}
use Rattle.bt_image.specs.Section.{is_read_only_section}
use Rattle.bt_image.specs.declared.section.Section.{Section}
use Rattle.byteorder.specs.Endian.{big_number}
use Rattle.byteorder.specs.Numbers.{big_from-lt}
use Rattle.sparc_decode.specs.Instr.{IsOperand}
use Rattle.sparc_decode.specs.declared.instruction.AluOp.{AluOp}
use Rattle.sparc_decode.specs.declared.instruction.AluOp.TheVariants.{Add, And, Or, Xor, Sub, Andn, Orn, Xnor, Addx, Subx}
use Rattle.sparc_decode.specs.declared.instruction.LoadKind.{LoadKind}
use Rattle.sparc_decode.specs.declared.instruction.LoadKind.TheVariants.{Ld, Ldub, Lduh, Ldd, Ldsb, Ldsh}
use Rattle.sparc_decode.specs.declared.instruction.Second.{Second}
use Rattle.sparc_decode.specs.declared.instruction.Second.TheVariants.{Reg, Imm}
use Rattle.sparc_decode.specs.declared.instruction.ShiftOp.{ShiftOp}
use Rattle.sparc_decode.specs.declared.instruction.ShiftOp.TheVariants.{Sll, Srl, Sra}
use Rattle.sparc_decode.specs.declared.instruction.TaggedOp.{TaggedOp}
use Rattle.sparc_decode.specs.declared.instruction.TaggedOp.TheVariants.{Taddcc, Tsubcc, Taddcctv, Tsubcctv}
use Rattle.sparc_machine.specs.Effect.{alu_result, shift_result, tagged_result}
use Rattle.sparc_machine.specs.Machine.{IsMachine, register_of, operand_of}
use Rattle.sparc_machine.specs.Memory.{constant_bytes, read_number, sign_extended, extended, first_word, second_word, load_size}
use Rattle.sparc_machine.specs.Register.{physical_of}
use Rattle.sparc_machine.specs.declared.machine.Machine.{Machine}
use Rattle.sparc_runs.specs.Sound.{AreBytes, OperandsAreWords}
use Rattle.word_ops.specs.Word.{complement_of}

-- where each element is below a limit, so is what is read at any place, past the end too
pub below_everywhere : (limit : ℕ) (xs : List ℕ) (k : ℕ) → 0 < limit → All (λ x. x < limit) xs → slice_index xs k < limit
below_everywhere limit xs k some all = elim (cases_lt k (length xs)) [
  | inl inside ↦ all k 0 inside
  | inr past ↦ subst (λ (x : ℕ). x < limit) (sym (get_or_past xs k 0 past)) some
]

-- what a machine has in a register is a word
pub register_word : (m : Machine) (r : ℕ) → IsMachine m → register_of m r < 2 ^ 32
register_word m r is = go (eqb r 0) where
  go : (b : Bool) → cond b 0 (slice_index m.regs (physical_of m.cwp r)) < 2 ^ 32
  go true = omega arith
  go false = below_everywhere (2 ^ 32) m.regs (physical_of m.cwp r) (omega arith) is.words

-- so is what a second operand comes to
pub operand_word : (m : Machine) (second : Second) → IsMachine m → IsOperand second → operand_of m second < 2 ^ 32
operand_word m (Reg r) is range = register_word m r is
operand_word m (Imm (pos n)) is range = let h = range.1 in omega (arith, ints)
operand_word m (Imm (negsuc n)) is range = omega (arith, ints)

-- both of them
pub operands_words : OperandsAreWords
operands_words = record { first = register_word; second = operand_word }

complement_word : (y : ℕ) → y < 2 ^ 32 → complement_of y < 2 ^ 32
complement_word y h = xor_of_32 y (2 ^ 32 - 1) h (omega arith)

-- the result of an operation is a word
pub alu_word : (op : AluOp) (x y : ℕ) (c : Bool) → x < 2 ^ 32 → y < 2 ^ 32 → alu_result op x y c < 2 ^ 32
alu_word Add x y c a b = omega arith
alu_word And x y c a b = let h = and_le_l x y in omega arith
alu_word Or x y c a b = or_of_32 x y a b
alu_word Xor x y c a b = xor_of_32 x y a b
alu_word Sub x y c a b = omega arith
alu_word Andn x y c a b = let h = and_le_l x (complement_of y) in omega arith
alu_word Orn x y c a b = or_of_32 x (complement_of y) a (complement_word y b)
alu_word Xnor x y c a b = complement_word (bit_xor x y) (xor_of_32 x y a b)
alu_word Addx x y c a b = omega arith
alu_word Subx x y c a b = omega arith

-- the result of a shift
pub shift_word : (op : ShiftOp) (x y : ℕ) → x < 2 ^ 32 → shift_result op x y < 2 ^ 32
shift_word Sll x y a = omega arith
shift_word Srl x y a = let h = div-le_self x (2 ^ (y % 32)) in omega arith
shift_word Sra x y a = omega arith

-- the result of a tagged operation
pub tagged_word : (op : TaggedOp) (x y : ℕ) → tagged_result op x y < 2 ^ 32
tagged_word Taddcc x y = omega arith
tagged_word Tsubcc x y = omega arith
tagged_word Taddcctv x y = omega arith
tagged_word Tsubcctv x y = omega arith

-- the bytes that an image holds are bytes
abbrev AreHeld : Option (List ℕ) → Type 0
AreHeld None = Unit {0}
AreHeld (Some these) = All (λ b. b < 256) these

held_bytes : (test : Section → Bool) (image : List ℕ) (a n : ℕ) → AreBytes image → AreHeld (held test image a n)
unfolding held
held_bytes test image a n are = go (holder test image a n) where
  go : (s : Option Section) → AreHeld (option_map (λ s. take n (drop (place_in s a) image)) s)
  go None = tt
  go (Some s) = All-take (λ b. b < 256) n (drop (place_in s a) image) (All-drop (λ b. b < 256) (place_in s a) image are)

constant_held : (image : List ℕ) (a n : ℕ) → AreBytes image → AreHeld (constant_bytes image a n)
constant_held image a n are = held_bytes is_read_only_section image a n are

big_below : (n : ℕ) (these : List ℕ) → All (λ b. b < 256) these → big_number n these < 256 ^ n
big_below n these all = big_from-lt 0 n these (λ k. below_everywhere 256 these k (omega arith) all)

read_one_byte : (o : Option (List ℕ)) (free : ℕ) → AreHeld o → read_number o 1 free < 2 ^ 8
read_one_byte None free h = omega arith
read_one_byte (Some these) free h = big_below 1 these h

read_two_bytes : (o : Option (List ℕ)) (free : ℕ) → AreHeld o → read_number o 2 free < 2 ^ 16
read_two_bytes None free h = omega arith
read_two_bytes (Some these) free h = big_below 2 these h

read_four_bytes : (o : Option (List ℕ)) (free : ℕ) → AreHeld o → read_number o 4 free < 2 ^ 32
read_four_bytes None free h = omega arith
read_four_bytes (Some these) free h = big_below 4 these h

extended_byte : (x : ℕ) → x < 2 ^ 8 → sign_extended 8 x < 2 ^ 32
extended_byte x h = go (nat_lt x (2 ^ 7)) where
  go : (b : Bool) → cond b x (x + 2 ^ 32 - 2 ^ 8) < 2 ^ 32
  go true = omega arith
  go false = omega arith

extended_half : (x : ℕ) → x < 2 ^ 16 → sign_extended 16 x < 2 ^ 32
extended_half x h = go (nat_lt x (2 ^ 15)) where
  go : (b : Bool) → cond b x (x + 2 ^ 32 - 2 ^ 16) < 2 ^ 32
  go true = omega arith
  go false = omega arith

-- what a load of less than a double word gives; a double word is read otherwise
pub loaded_word : (kind : LoadKind) (image : List ℕ) (a free : ℕ) → AreBytes image → (kind ≡ Ldd → ⊥)
    → extended kind (read_number (constant_bytes image a (load_size kind)) (load_size kind) free) < 2 ^ 32
loaded_word Ld image a free are other = read_four_bytes (constant_bytes image a 4) free (constant_held image a 4 are)
loaded_word Ldub image a free are other = let h = read_one_byte (constant_bytes image a 1) free (constant_held image a 1 are) in omega arith
loaded_word Lduh image a free are other = let h = read_two_bytes (constant_bytes image a 2) free (constant_held image a 2 are) in omega arith
loaded_word Ldd image a free are other = absurd (other refl)
loaded_word Ldsb image a free are other = extended_byte _ (read_one_byte (constant_bytes image a 1) free (constant_held image a 1 are))
loaded_word Ldsh image a free are other = extended_half _ (read_two_bytes (constant_bytes image a 2) free (constant_held image a 2 are))

-- the first word of a double word that is read
pub first_below : (image : List ℕ) (a free : ℕ) → AreBytes image → free < 2 ^ 32 → first_word (constant_bytes image a 8) free < 2 ^ 32
first_below image a free are within = go (constant_bytes image a 8) (constant_held image a 8 are) where
  go : (o : Option (List ℕ)) → AreHeld o → first_word o free < 2 ^ 32
  go None h = within
  go (Some these) h = big_below 4 these h

-- the second one
pub second_below : (image : List ℕ) (a free : ℕ) → AreBytes image → free < 2 ^ 32 → second_word (constant_bytes image a 8) free < 2 ^ 32
second_below image a free are within = go (constant_bytes image a 8) (constant_held image a 8 are) where
  go : (o : Option (List ℕ)) → AreHeld o → second_word o free < 2 ^ 32
  go None h = within
  go (Some these) h = big_below 4 (drop 4 these) (All-drop (λ b. b < 256) 4 these h)
