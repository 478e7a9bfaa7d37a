-- What an instruction does depends on no registers but those that it reads.
use Rattle.std.proofs.Common.{◌≡◌, ℕ, ◌+◌, ◌%◌, ◌^◌, inl, inr, Bool, true, false, List, ◌∷◌, Option, Some, None, refl, sym, ap, subst, ◌∙◌, cond, eqb}
use Rattle.std.proofs.lemmas.Bool.Decides.{eqb_tells}
use Rattle.std.proofs.lemmas.List.{get_or-set_other, set_comm, set-set}
use Rattle.std.specs.Prelude.{slice_set, slice_index}
use Rattle.sparc_decode.specs.Register.{operands, registers_read}
use Rattle.sparc_decode.specs.declared.instruction.AluOp.{AluOp}
use Rattle.sparc_decode.specs.declared.instruction.Instr.{Instr}
use Rattle.sparc_decode.specs.declared.instruction.Instr.TheVariants.{Call, Unimp, Sethi, Branch, FloatBranch, Alu}
use Rattle.sparc_decode.specs.declared.instruction.Instr.TheVariants.{Tagged, MulStep, Shift, ReadY, WriteY, FloatOp}
use Rattle.sparc_decode.specs.declared.instruction.Instr.TheVariants.{FloatCmp, Jmpl, Flush, Save, Restore, Ticc, Load}
use Rattle.sparc_decode.specs.declared.instruction.Instr.TheVariants.{Store, Atomic, FloatMem}
use Rattle.sparc_decode.specs.declared.instruction.Instr.TheVariants.{Unmodelled as UnmodelledWord, Unknown, Multiply}
use Rattle.sparc_decode.specs.declared.instruction.Instr.TheVariants.{Divide}
use Rattle.sparc_decode.specs.declared.instruction.LoadKind.{LoadKind}
use Rattle.sparc_decode.specs.declared.instruction.LoadKind.TheVariants.{Ld, Ldub, Lduh, Ldd, Ldsb, Ldsh}
use Rattle.sparc_decode.specs.declared.instruction.Second.{Second}
use Rattle.sparc_decode.specs.declared.instruction.Second.TheVariants.{Reg, Imm}
use Rattle.sparc_decode.specs.declared.instruction.StoreKind.{StoreKind}
use Rattle.sparc_decode.specs.declared.instruction.StoreKind.TheVariants.{St, Stb, Sth, Std}
use Rattle.sparc_machine.specs.Effect.{Effect, goes_on, with_flags, flags_from, tagged_result, shift_result}
use Rattle.sparc_machine.specs.Effect.{freely_flagged, is_in_order, in_order, address_in, operated, branched, jumped}
use Rattle.sparc_machine.specs.Effect.{is_invalid, turned, read_into, load_effect, is_odd_double_load, write_trap}
use Rattle.sparc_machine.specs.Effect.{store_effect, is_odd_double_store, atomic_effect, float_effect, unless_trapped}
use Rattle.sparc_machine.specs.Effect.{effect_of}
use Rattle.sparc_machine.specs.Machine.{register_of, with_register, operand_of, going_to, advanced}
use Rattle.sparc_machine.specs.Memory.{load_size, store_size, atomic_size, is_float_store, float_size}
use Rattle.sparc_machine.specs.Reads.{with_place, IsElsewhere, AreElsewhere, AgreesBut, EffectsAgreeBut, trapped, done, DependsOnReadsAlone}
use Rattle.sparc_machine.specs.Register.{physical_of}
use Rattle.sparc_machine.specs.declared.free.Free.{Free}
use Rattle.sparc_machine.specs.declared.machine.Machine.{Machine}
use Rattle.sparc_machine.specs.declared.trap.Trap.{Trap}
use Rattle.sparc_machine.specs.declared.trap.Trap.TheVariants.{Misaligned, Unmodelled, Overflow, Underflow}
use Rattle.word_ops.specs.Word.{product_of}

module _ (p v : ℕ) where
  -- the same content of a register that stands elsewhere
  same_register : (m : Machine) (r : ℕ) → IsElsewhere m p r → register_of (with_place m p v) r ≡ register_of m r
  same_register m r h = elim (eqb_tells r 0) [
    | inl zero ↦ ap (λ (b : Bool). cond b 0 (slice_index (slice_set m.regs p v) (physical_of m.cwp r))) zero.0
        ∙ sym (ap (λ (b : Bool). cond b 0 (slice_index m.regs (physical_of m.cwp r))) zero.0)
    | inr other ↦
        ap (λ (b : Bool). cond b 0 (slice_index (slice_set m.regs p v) (physical_of m.cwp r))) other.0
        ∙ get_or-set_other m.regs p (physical_of m.cwp r) v 0 (h other.1)
        ∙ sym (ap (λ (b : Bool). cond b 0 (slice_index m.regs (physical_of m.cwp r))) other.0)
  ]

  -- the registers of the second operand stand elsewhere
  abbrev Elsewhere : Machine → ℕ → Second → Type 0
  Elsewhere m rs1 second = AreElsewhere m p (operands rs1 second)

  same_first : (m : Machine) (rs1 : ℕ) (second : Second) → Elsewhere m rs1 second → register_of (with_place m p v) rs1 ≡ register_of m rs1
  same_first m rs1 (Reg r) h = same_register m rs1 h.0
  same_first m rs1 (Imm n) h = same_register m rs1 h.0

  same_second : (m : Machine) (rs1 : ℕ) (second : Second) → Elsewhere m rs1 second → operand_of (with_place m p v) second ≡ operand_of m second
  same_second m rs1 (Reg r) h = same_register m r h.1.0
  same_second m rs1 (Imm n) h = refl

  same_address : (m : Machine) (rs1 : ℕ) (second : Second) → Elsewhere m rs1 second → address_in (with_place m p v) rs1 second ≡ address_in m rs1 second
  same_address m rs1 second h =
      ap (λ (x : ℕ). (x + operand_of (with_place m p v) second) % 2 ^ 32) (same_first m rs1 second h)
      ∙ ap (λ (y : ℕ). (register_of m rs1 + y) % 2 ^ 32) (same_second m rs1 second h)

  -- a write of a register
  wrote_place : (m : Machine) (r x : ℕ) → AgreesBut p v (with_register m r x) (with_register (with_place m p v) r x)
  wrote_place m r x =
      elim (eqb r 0) as
      (λ b.
      AgreesBut p v (cond b m (record m { regs = slice_set m.regs (physical_of m.cwp r) x }))
      (cond b (with_place m p v) (record (with_place m p v) { regs = slice_set (slice_set m.regs p v) (physical_of m.cwp r) x }))) [
        | true ↦ inl refl
        | false ↦ elim (eqb_tells p (physical_of m.cwp r)) [
          | inl same ↦ inr
              (ap (λ (rs : List ℕ). record m { regs = rs })
              (ap (λ (q : ℕ). slice_set (slice_set m.regs p v) q x) (sym same.1) ∙ set-set m.regs p v x ∙ ap (λ (q : ℕ). slice_set m.regs q x) same.1))
          | inr other ↦ inl (ap (λ (rs : List ℕ). record m { regs = rs }) (set_comm m.regs p (physical_of m.cwp r) v x other.1))
        ]
      ]

  wrote : (m n : Machine) (r x : ℕ) → AgreesBut p v m n → AgreesBut p v (with_register m r x) (with_register n r x)
  wrote m n r x (inl e) = subst (λ (s : Machine). AgreesBut p v (with_register m r x) (with_register s r x)) (sym e) (wrote_place m r x)
  wrote m n r x (inr e) = inr (ap (λ (s : Machine). with_register s r x) e)

  -- going on, or to a target
  went : (m n : Machine) (target : ℕ) → AgreesBut p v m n → AgreesBut p v (going_to m target) (going_to n target)
  went m n target (inl e) = inl (ap (λ (s : Machine). going_to s target) e)
  went m n target (inr e) = inr (ap (λ (s : Machine). going_to s target) e)

  went_on : (m n : Machine) → AgreesBut p v m n → EffectsAgreeBut p v (goes_on m) (goes_on n)
  went_on m n (inl e) = done false (inl (ap advanced e))
  went_on m n (inr e) = done false (inr (ap advanced e))

  -- a write, and on
  write_on : (m n : Machine) (r x : ℕ) → AgreesBut p v m n → EffectsAgreeBut p v (goes_on (with_register m r x)) (goes_on (with_register n r x))
  write_on m n r x h = went_on _ _ (wrote m n r x h)

  by_test : (b : Bool) (e f x y : Effect) → EffectsAgreeBut p v e x → EffectsAgreeBut p v f y → EffectsAgreeBut p v (cond b e f) (cond b x y)
  by_test true e f x y h k = h
  by_test false e f x y h k = k

  unless_trap : (trap : Option Trap) (e x : Effect) → EffectsAgreeBut p v e x → EffectsAgreeBut p v (unless_trapped trap e) (unless_trapped trap x)
  unless_trap None e x h = h
  unless_trap (Some t) e x h = trapped t

  jump : (m : Machine) (rd target : ℕ)
      → EffectsAgreeBut p v (in_order m (jumped m rd target)) (in_order (with_place m p v) (jumped (with_place m p v) rd target))
  jump m rd target =
      by_test (is_in_order m) _ _ _ _
      (by_test (eqb (target % 4) 0) _ _ _ _ (done false (went _ _ target (wrote m _ rd m.pc (inl refl)))) (trapped Misaligned)) (trapped Unmodelled)

  branch : (m : Machine) (annul always taken : Bool) (target : ℕ)
      → EffectsAgreeBut p v (branched m annul always taken target) (branched (with_place m p v) annul always taken target)
  branch m true true true target = done true (inl refl)
  branch m true false true target = done false (inl refl)
  branch m false always true target = done false (inl refl)
  branch m true always false target = done true (inl refl)
  branch m false always false target = done false (inl refl)

  operate : (m : Machine) (op : AluOp) (cc : Bool) (rd x y : ℕ) → EffectsAgreeBut p v (operated m op cc rd x y) (operated (with_place m p v) op cc rd x y)
  operate m op true rd x y = write_on _ _ rd _ (inl refl)
  operate m op false rd x y = write_on _ _ rd _ (inl refl)

  flagged : (m : Machine) (free : Free) (sets : Bool) → AgreesBut p v (freely_flagged m free sets) (freely_flagged (with_place m p v) free sets)
  flagged m free true = inl refl
  flagged m free false = inl refl

  load : (image : List ℕ) (free : Free) (m : Machine) (kind : LoadKind) (rd a : ℕ)
      → EffectsAgreeBut p v (read_into image free m kind rd a) (read_into image free (with_place m p v) kind rd a)
  load image free m Ld rd a = write_on _ _ rd _ (inl refl)
  load image free m Ldub rd a = write_on _ _ rd _ (inl refl)
  load image free m Lduh rd a = write_on _ _ rd _ (inl refl)
  load image free m Ldd rd a = went_on _ _ (wrote _ _ (rd + 1) _ (wrote m _ rd _ (inl refl)))
  load image free m Ldsb rd a = write_on _ _ rd _ (inl refl)
  load image free m Ldsh rd a = write_on _ _ rd _ (inl refl)

  -- the registers of a store's operands are among those that it reads
  stored : (m : Machine) (kind : StoreKind) (rd rs1 : ℕ) (second : Second) → AreElsewhere m p (registers_read (Store kind rd rs1 second))
      → Elsewhere m rs1 second
  stored m St rd rs1 second h = h.1
  stored m Stb rd rs1 second h = h.1
  stored m Sth rd rs1 second h = h.1
  stored m Std rd rs1 second h = go (eqb (rd % 2) 0) h where
    go : (b : Bool) → AreElsewhere m p (cond b (rd ∷ (rd + 1) ∷ operands rs1 second) (rd ∷ operands rs1 second)) → Elsewhere m rs1 second
    go true k = k.1.1
    go false k = k.1

  swapped : (m : Machine) (swap : Bool) (rd rs1 : ℕ) (second : Second) → AreElsewhere m p (registers_read (Atomic swap rd rs1 second)) → Elsewhere m rs1 second
  swapped m true rd rs1 second h = h.1
  swapped m false rd rs1 second h = h

  abbrev Same : List ℕ → Free → Machine → Instr → Type 0
  Same image free m i = EffectsAgreeBut p v (effect_of image free m i) (effect_of image free (with_place m p v) i)

  -- with the same address in both
  at_address : (F G : ℕ → Effect) (a b : ℕ) → b ≡ a → EffectsAgreeBut p v (F a) (G a) → EffectsAgreeBut p v (F a) (G b)
  at_address F G a b e h = subst (λ (x : ℕ). EffectsAgreeBut p v (F a) (G x)) (sym e) h

  -- with the same words of both operands
  with_words : (F G : ℕ → ℕ → Effect) (a b x y : ℕ) → x ≡ a → y ≡ b → EffectsAgreeBut p v (F a b) (G a b) → EffectsAgreeBut p v (F a b) (G x y)
  with_words F G a b x y e k h =
      subst (λ (s : ℕ). EffectsAgreeBut p v (F a b) (G s y)) (sym e) (subst (λ (s : ℕ). EffectsAgreeBut p v (F a b) (G a s)) (sym k) h)

  -- what each instruction does
  same : (image : List ℕ) (free : Free) (m : Machine) (i : Instr) → AreElsewhere m p (registers_read i) → Same image free m i
  same image free m (Call disp) h = by_test (is_in_order m) _ _ _ _ (done false (went _ _ _ (wrote m _ 15 m.pc (inl refl)))) (trapped Unmodelled)
  same image free m (Unimp imm) h = trapped Unmodelled
  same image free m (Sethi rd imm) h = write_on _ _ rd _ (inl refl)
  same image free m (Branch annul cond disp) h = by_test (is_in_order m) _ _ _ _ (branch m annul _ _ _) (trapped Unmodelled)
  same image free m (FloatBranch annul cond disp) h = by_test (is_in_order m) _ _ _ _ (branch m annul _ _ _) (trapped Unmodelled)
  same image free m (Alu op sets rd rs1 second) h =
      with_words (λ x y. operated m op sets rd x y) (λ x y. operated (with_place m p v) op sets rd x y) _ _ _ _
      (same_first m rs1 second h) (same_second m rs1 second h) (operate m op sets rd _ _)
  same image free m (Tagged op rd rs1 second) h =
      with_words (λ x y. goes_on (with_register (with_flags m (flags_from free.flags)) rd (tagged_result op x y)))
      (λ x y. goes_on (with_register (with_flags (with_place m p v) (flags_from free.flags)) rd (tagged_result op x y))) _ _ _ _
      (same_first m rs1 second h) (same_second m rs1 second h) (write_on _ _ rd _ (inl refl))
  same image free m (MulStep rd rs1 second) h = write_on _ _ rd _ (inl refl)
  same image free m (Shift op rd rs1 second) h =
      with_words (λ x y. goes_on (with_register m rd (shift_result op x y)))
      (λ x y. goes_on (with_register (with_place m p v) rd (shift_result op x y))) _ _ _ _
      (same_first m rs1 second h) (same_second m rs1 second h) (write_on _ _ rd _ (inl refl))
  same image free m (ReadY rd) h = write_on _ _ rd _ (inl refl)
  same image free m (WriteY rs1 second) h = went_on m _ (inl refl)
  same image free m (FloatOp these) h = went_on m _ (inl refl)
  same image free m (FloatCmp these) h = went_on m _ (inl refl)
  same image free m (Jmpl rd rs1 second) h =
      at_address (λ a. in_order m (jumped m rd a)) (λ a. in_order (with_place m p v) (jumped (with_place m p v) rd a)) _ _
      (same_address m rs1 second h) (jump m rd _)
  same image free m (Flush rs1 second) h = went_on m _ (inl refl)
  same image free m (Save rd rs1 second) h =
      at_address (λ a. turned m ((m.cwp + 7) % 8) Overflow rd a) (λ a. turned (with_place m p v) ((m.cwp + 7) % 8) Overflow rd a) _ _
      (same_address m rs1 second h) (by_test (is_invalid m.wim ((m.cwp + 7) % 8)) _ _ _ _ (trapped Overflow) (write_on _ _ rd _ (inl refl)))
  same image free m (Restore rd rs1 second) h =
      at_address (λ a. turned m ((m.cwp + 1) % 8) Underflow rd a) (λ a. turned (with_place m p v) ((m.cwp + 1) % 8) Underflow rd a) _ _
      (same_address m rs1 second h) (by_test (is_invalid m.wim ((m.cwp + 1) % 8)) _ _ _ _ (trapped Underflow) (write_on _ _ rd _ (inl refl)))
  same image free m (Ticc cond rs1 second) h = by_test (eqb cond 0) _ _ _ _ (went_on m _ (inl refl)) (trapped Unmodelled)
  same image free m (Load kind rd rs1 second) h =
      at_address (λ a. load_effect image free m kind rd a) (λ a. load_effect image free (with_place m p v) kind rd a) _ _
      (same_address m rs1 second h)
      (by_test (is_odd_double_load kind rd) _ _ _ _ (trapped Unmodelled)
      (by_test (eqb (address_in m rs1 second % load_size kind) 0) _ _ _ _ (load image free m kind rd _) (trapped Misaligned)))
  same image free m (Store kind rd rs1 second) h =
      at_address (λ a. store_effect image m kind rd a) (λ a. store_effect image (with_place m p v) kind rd a) _ _
      (same_address m rs1 second (stored m kind rd rs1 second h))
      (by_test (is_odd_double_store kind rd) _ _ _ _ (trapped Unmodelled)
      (unless_trap (write_trap image (address_in m rs1 second) (store_size kind)) _ _ (went_on m _ (inl refl))))
  same image free m (Atomic swap rd rs1 second) h =
      at_address (λ a. atomic_effect image free m swap rd a) (λ a. atomic_effect image free (with_place m p v) swap rd a) _ _
      (same_address m rs1 second (swapped m swap rd rs1 second h))
      (unless_trap (write_trap image (address_in m rs1 second) (atomic_size swap)) _ _ (write_on _ _ rd _ (inl refl)))
  same image free m (FloatMem kind rd rs1 second) h =
      at_address (λ a. float_effect image m kind a) (λ a. float_effect image (with_place m p v) kind a) _ _
      (same_address m rs1 second h)
      (by_test (is_float_store kind) _ _ _ _
      (unless_trap (write_trap image (address_in m rs1 second) (float_size kind)) _ _ (went_on m _ (inl refl)))
      (by_test (eqb (address_in m rs1 second % float_size kind) 0) _ _ _ _ (went_on m _ (inl refl)) (trapped Misaligned)))
  same image free m (UnmodelledWord these) h = trapped Unmodelled
  same image free m (Unknown these) h = trapped Unmodelled
  same image free m (Multiply sets rd rs1 second) h =
      with_words (λ x y. goes_on (with_register (freely_flagged m free sets) rd (product_of x y)))
      (λ x y. goes_on (with_register (freely_flagged (with_place m p v) free sets) rd (product_of x y))) _ _ _ _
      (same_first m rs1 second h) (same_second m rs1 second h) (write_on _ _ rd _ (flagged m free sets))
  same image free m (Divide sets rd rs1 second) h = write_on _ _ rd _ (flagged m free sets)

-- what an instruction does depends on no registers but those that `sparc_decode::reads` names
pub depends_on_reads : DependsOnReadsAlone
depends_on_reads image free m i place value h = same place value image free m i h
