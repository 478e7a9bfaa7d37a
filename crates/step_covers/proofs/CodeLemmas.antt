-- The condition codes of an operation are those of the cells that the analysis names.
use Rattle.std.proofs.Common.{◌≡◌, ◌≢◌, ℕ, ℤ, pos, ◌^◌, ◌<◌, ◌⊎◌, inl, inr, ◌&&◌, Bool, true, false, refl, sym, ap, subst, ◌∙◌, eq-eqb}
use Rattle.std.specs.Prelude.{◌==◌, not, nat_le, bit_or, if◌then◌else◌}
use Rattle.std.specs.Int.Bits.{or_zero_l, or_zero_r}
use Rattle.std.specs.Ordering.{int_eq}
use Rattle.std.proofs.lemmas.Bool.{and_parts, false≢true}
use Rattle.std.proofs.lemmas.Bool.Decides.{eqb_tells, Decides-int_eq}
use Rattle.abs_state.specs.declared.flags.Flags.{Flags as Known}
use Rattle.abs_state.specs.declared.flags.Flags.TheVariants.{Unknown, Cmp}
use Rattle.abs_state.specs.declared.flags.Right.TheVariants.{Cell, Word}
use Rattle.call_effects.specs.Cell.{cell_of}
use Rattle.sparc_decode.specs.Instr.{IsOperand}
use Rattle.sparc_decode.specs.declared.instruction.AluOp.{AluOp}
use Rattle.sparc_decode.specs.declared.instruction.AluOp.TheVariants.{Add, And, Or, Xor, Sub, Andn, Orn, Xnor, Addx, Subx}
use Rattle.sparc_decode.specs.declared.instruction.Second.{Second}
use Rattle.sparc_decode.specs.declared.instruction.Second.TheVariants.{Reg, Imm}
use Rattle.sparc_machine.specs.Effect.{alu_result, alu_flags}
use Rattle.sparc_machine.specs.Machine.{IsMachine, register_of, operand_of}
use Rattle.sparc_machine.specs.declared.machine.Machine.{Machine}
use Rattle.sparc_runs.proofs.Bounds.{register_word, operand_word as second_word, alu_word}
use Rattle.sparc_runs.proofs.Meanings.{logic}
use Rattle.state_covers.specs.Covers.{FlagsMean, ShowsWord, right_in}
use Rattle.transfer_acts.specs.Flag.{of_test, of_result, keeps_sources, of_difference, of_logic, of_tested, of_or, of_operation}
use Rattle.transfer_acts.specs.Operand.{right_of}
use Rattle.word_ops.specs.Flags.{flags_of, logic_flags_of, difference_flags_of}
use Rattle.word_ops.specs.declared.arithmetic.Flags.{Flags}

-- what cells hold behind the write of a register of a window at a depth
module _ (depth : ℕ) (m : Machine) (machine : IsMachine m) (rd value : ℕ) (low : rd < 32) (new : ℕ → ℕ) (there : rd ≢ 0 → new (cell_of depth rd) ≡ value)
    (elsewhere : (r : ℕ) → r < 32 → (r ≢ rd) ⊎ (rd ≡ 0) → new (cell_of depth r) ≡ register_of m r) where
  -- N and Z are those of the result
  result_means : (f : Flags) → ShowsWord value f → FlagsMean (of_result depth rd) new f
  result_means f shows = elim (eqb_tells rd 0) [
    | inl none ↦ (let t = none.0 in rw t tt)
    | inr some ↦ (let t = some.0 in rw t (subst (λ (w : ℕ). ShowsWord w f) (sym (there some.1)) shows))
  ]

  -- a logical result less 0
  test_means : (r w : ℕ) → w < 2 ^ 32 → new (cell_of depth r) ≡ w → FlagsMean (of_test depth r) new (logic_flags_of w)
  test_means r w within is = logic w within ∙ ap (λ (x : ℕ). difference_flags_of x 0 false) (sym is)

  logic_means : value < 2 ^ 32 → FlagsMean (of_logic depth rd) new (logic_flags_of value)
  logic_means within = elim (eqb_tells rd 0) [
    | inl none ↦ (let t = none.0 in rw t tt)
    | inr some ↦ (let t = some.0 in rw t (test_means rd value within (there some.1)))
  ]

  -- a register that is tested for itself, by an OR with 0 that isn't kept
  tested_means : (rs1 : ℕ) (second : Second) → rd ≡ 0 → rs1 < 32 → IsOperand second
      → FlagsMean (of_tested depth rs1 second) new (logic_flags_of (bit_or (register_of m rs1) (operand_of m second)))
  tested_means rs1 (Reg r) none near range = elim (eqb_tells r 0) [
    | inl zero_right ↦
        (let t = zero_right.0 in
        let y : register_of m r ≡ 0 = rw t refl in
        pick (r == 0) (of_test depth rs1) (if rs1 == 0 then of_test depth r else Unknown) (logic_flags_of (bit_or (register_of m rs1) (register_of m r))) t
        (subst (λ (w : ℕ). FlagsMean (of_test depth rs1) new (logic_flags_of w))
        (sym (ap (λ (x : ℕ). bit_or (register_of m rs1) x) y ∙ or_zero_r (register_of m rs1)))
        (test_means rs1 (register_of m rs1) (register_word m rs1 machine) (elsewhere rs1 near (inr none)))))
    | inr some_right ↦ elim (eqb_tells rs1 0) [
      | inl zero_left ↦
          (let t = some_right.0 in
          let u = zero_left.0 in
          let x : register_of m rs1 ≡ 0 = rw u refl in
          let means : FlagsMean (of_test depth r) new (logic_flags_of (bit_or (register_of m rs1) (register_of m r))) =
          subst (λ (w : ℕ). FlagsMean (of_test depth r) new (logic_flags_of w))
          (sym (ap (λ (k : ℕ). bit_or k (register_of m r)) x ∙ or_zero_l (register_of m r)))
          (test_means r (register_of m r) (register_word m r machine) (elsewhere r range (inr none))) in
          chosen (r == 0) (rs1 == 0) (of_test depth rs1) (of_test depth r) (logic_flags_of (bit_or (register_of m rs1) (register_of m r))) t u means)
      | inr some_left ↦
          (let t = some_right.0 in
          let u = some_left.0 in
          unchosen (r == 0) (rs1 == 0) (of_test depth rs1) (of_test depth r) (logic_flags_of (bit_or (register_of m rs1) (register_of m r))) t u)
    ]
  ]
    where
      pick : (a : Bool) (one other : Known) (f : Flags) → a ≡ true → FlagsMean one new f → FlagsMean (if a then one else other) new f
      pick true one other f is_true means = means
      pick false one other f is_true means = absurd (false≢true is_true)

      chosen : (a b : Bool) (one other : Known) (f : Flags) → a ≡ false → b ≡ true → FlagsMean other new f
          → FlagsMean (if a then one else (if b then other else Unknown)) new f
      chosen true b one other f is_false is_true means = absurd (false≢true (sym is_false))
      chosen false true one other f is_false is_true means = means
      chosen false false one other f is_false is_true means = absurd (false≢true is_true)

      unchosen : (a b : Bool) (one other : Known) (f : Flags) → a ≡ false → b ≡ false → FlagsMean (if a then one else (if b then other else Unknown)) new f
      unchosen true b one other f is_false none = absurd (false≢true (sym is_false))
      unchosen false true one other f is_false none = absurd (false≢true (sym none))
      unchosen false false one other f is_false none = tt
  tested_means rs1 (Imm n) none near range = by (int_eq n (pos 0)) ((Decides-int_eq n (pos 0)).0) where
    by : (b : Bool) → (b ≡ true → n ≡ pos 0)
        → FlagsMean (if b then of_test depth rs1 else Unknown) new (logic_flags_of (bit_or (register_of m rs1) (operand_of m (Imm n))))
    by true is =
        let y : operand_of m (Imm n) ≡ 0 = ap (λ (k : ℤ). operand_of m (Imm k)) (is refl) in
        subst (λ (w : ℕ). FlagsMean (of_test depth rs1) new (logic_flags_of w))
        (sym (ap (λ (x : ℕ). bit_or (register_of m rs1) x) y ∙ or_zero_r (register_of m rs1)))
        (test_means rs1 (register_of m rs1) (register_word m rs1 machine) (elsewhere rs1 near (inr none)))
    by false is = tt

  or_means : (rs1 : ℕ) (second : Second) → rs1 < 32 → IsOperand second → value ≡ bit_or (register_of m rs1) (operand_of m second) → value < 2 ^ 32
      → FlagsMean (of_or depth rd rs1 second) new (logic_flags_of value)
  or_means rs1 second near range is within = elim (eqb_tells rd 0) [
    | inl none ↦
        (let t = none.0 in
        rw t (subst (λ (w : ℕ). FlagsMean (of_tested depth rs1 second) new (logic_flags_of w)) (sym is) (tested_means rs1 second none.1 near range)))
    | inr some ↦ (let t = some.0 in rw t (test_means rd value within (there some.1)))
  ]

  -- a difference of sources that are left as they were
  left_kept : (rs1 : ℕ) (second : Second) → keeps_sources rd rs1 second ≡ true → (rs1 ≢ rd) ⊎ (rd ≡ 0)
  left_kept rs1 second keeps = elim (eqb_tells rd 0) [
    | inl none ↦ inr none.1
    | inr some ↦ inl (λ same. (let t = some.0 in
        let u : (rd == rs1) ≡ true = eq-eqb rd rs1 (sym same) in
        false≢true (rw (t, u) at keeps)))
  ]

  right_kept : (rs1 r : ℕ) → keeps_sources rd rs1 (Reg r) ≡ true → (r ≢ rd) ⊎ (rd ≡ 0)
  right_kept rs1 r keeps = elim (eqb_tells rd 0) [
    | inl none ↦ inr none.1
    | inr some ↦ inl (λ same. (let t = some.0 in
        let u : (r == rd) ≡ true = eq-eqb r rd same in
        false≢true (both (not (rd == rs1)) (rw (t, u) at keeps))))
  ]
    where
      both : (b : Bool) → (b && false) ≡ true → false ≡ true
      both true e = e
      both false e = e

  right_means : (rs1 : ℕ) (second : Second) → IsOperand second → keeps_sources rd rs1 second ≡ true → right_in new (right_of depth second) ≡ operand_of m second
  right_means rs1 (Reg r) range keeps = elim (eqb_tells r 0) [
    | inl none ↦ (let t = none.0 in rw t refl)
    | inr some ↦ (let t = some.0 in
        by (r == 0) t)
  ]
    where
      by : (b : Bool) → b ≡ false → right_in new (if b then Word 0 else Cell (cell_of depth r)) ≡ register_of m r
      by true is_false = absurd (false≢true (sym is_false))
      by false is_false = elsewhere r range (right_kept rs1 r keeps)
  right_means rs1 (Imm n) range keeps = refl

  difference_means : (rs1 : ℕ) (second : Second) → rs1 < 32 → IsOperand second
      → ShowsWord value (difference_flags_of (register_of m rs1) (operand_of m second) false)
      → FlagsMean (of_difference depth rd rs1 second) new (difference_flags_of (register_of m rs1) (operand_of m second) false)
  difference_means rs1 second near range shows = by (not (rs1 == 0) && keeps_sources rd rs1 second) refl where
    by : (b : Bool) → (not (rs1 == 0) && keeps_sources rd rs1 second) ≡ b
        → FlagsMean (if b then Cmp (cell_of depth rs1) (right_of depth second) else of_result depth rd) new
        (difference_flags_of (register_of m rs1) (operand_of m second) false)
    by false no_more = result_means (difference_flags_of (register_of m rs1) (operand_of m second) false) shows
    by true keeps =
        let kept = (and_parts (not (rs1 == 0)) (keeps_sources rd rs1 second) keeps).1 in
        let a : new (cell_of depth rs1) ≡ register_of m rs1 = elsewhere rs1 near (left_kept rs1 second kept) in
        let b : right_in new (right_of depth second) ≡ operand_of m second = right_means rs1 second range kept in
        λ i. difference_flags_of (sym a i) (sym b i) false

  shows_by : {result : ℕ} {overflow carry : Bool} → value ≡ result → ShowsWord value (flags_of result overflow carry)
  shows_by is = record { negative = ap (λ (w : ℕ). nat_le (2 ^ 31) w) (sym is); zero = ap (λ (w : ℕ). w == 0) (sym is) }

  logic_at : (known : Known) {result : ℕ} → value ≡ result → FlagsMean known new (logic_flags_of value) → FlagsMean known new (logic_flags_of result)
  logic_at known is means = subst (λ (w : ℕ). FlagsMean known new (logic_flags_of w)) is means

  logic_by : {result : ℕ} → value ≡ result → FlagsMean (of_logic depth rd) new (logic_flags_of value)
      → FlagsMean (of_logic depth rd) new (logic_flags_of result)
  logic_by is means = logic_at (of_logic depth rd) is means

  word_by : (op : AluOp) (rs1 : ℕ) (second : Second) (carry : Bool) → IsOperand second → value ≡ alu_result op (register_of m rs1) (operand_of m second) carry
      → value < 2 ^ 32
  word_by op rs1 second carry range is =
      subst (λ (w : ℕ). w < 2 ^ 32) (sym is)
      (alu_word op (register_of m rs1) (operand_of m second) carry (register_word m rs1 machine) (second_word m second machine range))

  -- the condition codes of each operation
  pub codes_mean : (op : AluOp) (rs1 : ℕ) (second : Second) (carry : Bool) → rs1 < 32 → IsOperand second
      → value ≡ alu_result op (register_of m rs1) (operand_of m second) carry
      → FlagsMean (of_operation op depth rd rs1 second) new (alu_flags op (register_of m rs1) (operand_of m second) carry)
  codes_mean Add rs1 second carry near range is = result_means _ (shows_by is)
  codes_mean And rs1 second carry near range is = logic_by is (logic_means (word_by And rs1 second carry range is))
  codes_mean Or rs1 second carry near range is =
      logic_at (of_or depth rd rs1 second) is (or_means rs1 second near range is (word_by Or rs1 second carry range is))
  codes_mean Xor rs1 second carry near range is = logic_by is (logic_means (word_by Xor rs1 second carry range is))
  codes_mean Sub rs1 second carry near range is = difference_means rs1 second near range (shows_by is)
  codes_mean Andn rs1 second carry near range is = logic_by is (logic_means (word_by Andn rs1 second carry range is))
  codes_mean Orn rs1 second carry near range is = logic_by is (logic_means (word_by Orn rs1 second carry range is))
  codes_mean Xnor rs1 second carry near range is = logic_by is (logic_means (word_by Xnor rs1 second carry range is))
  codes_mean Addx rs1 second carry near range is = result_means _ (shows_by is)
  codes_mean Subx rs1 second carry near range is = result_means _ (shows_by is)
