-- What the act of a place keeps of its instruction, by the instruction.
use Rattle.std.proofs.Common.{◌≡◌, ◌≢◌, ℕ, zero, suc, ◌+◌, ◌<◌, ◌||◌, ◌&&◌, Bool, true, false, List, [], ◌∷◌, Option, Some, None, Contains}
use Rattle.std.proofs.Common.{if◌then◌else◌, refl, sym, subst, ◌∙◌, arith, pos, negsuc, ◌⊎◌, inl, inr}
use Rattle.std.specs.Prelude.{◌==◌, not, nat_lt, slice_index_or}
use Rattle.std.specs.Ordering.{int_eq}
use Rattle.std.proofs.lemmas.Bool.{and_from, and_parts, both_ways, eq-eqb, eqb-true, false≢true, lt-ltb, ne_eqb, or_left, or_right, not_from_false}
use Rattle.abs_state.specs.declared.key.Place.{Place}
use Rattle.abs_state.specs.declared.flags.Flags.{Flags}
use Rattle.abs_state.specs.declared.flags.Right.{Right}
use Rattle.call_effects.proofs.CellLemmas.{cells_tell_registers_apart}
use Rattle.call_effects.proofs.MaskLemmas.{has-with}
use Rattle.call_effects.specs.Cell.{cell_of}
use Rattle.call_effects.specs.Mask.{has_cell, with_cell}
use Rattle.sparc_decode.specs.declared.instruction.Instr.{Instr}
use Rattle.sparc_decode.specs.declared.instruction.Instr.TheVariants.{Call, Unimp, Sethi, Branch, FloatBranch, Alu, Tagged, MulStep, Shift, ReadY}
use Rattle.sparc_decode.specs.declared.instruction.Instr.TheVariants.{WriteY, FloatOp, FloatCmp, Jmpl, Flush, Save, Restore, Ticc, Load, Store}
use Rattle.sparc_decode.specs.declared.instruction.Instr.TheVariants.{Atomic, FloatMem, Unmodelled, Unknown, Multiply, Divide}
use Rattle.sparc_decode.specs.declared.instruction.LoadKind.{LoadKind}
use Rattle.sparc_decode.specs.declared.instruction.LoadKind.TheVariants.{Ld, Ldub, Lduh, Ldd, Ldsb, Ldsh}
use Rattle.sparc_decode.specs.declared.instruction.Second.{Second}
use Rattle.sparc_decode.specs.declared.instruction.Second.TheVariants.{Reg, Imm}
use Rattle.sparc_decode.specs.Register.{registers_written}
use Rattle.sparc_machine.specs.Effect.{is_odd_double_load, is_odd_double_store}
use Rattle.sparc_machine.specs.Frame.{is_return, lets_call}
use Rattle.sparc_runs.specs.Cost.{annuls}
use Rattle.transfer_acts.specs.Act.{act_of, behind, calling, call_to, in_line, is_next, is_save, jump_to, linked, plain, open_instruction, sum_of}
use Rattle.transfer_acts.specs.Operand.{operand, register}
use Rattle.transfer_acts.specs.Step.{into, nothing, read, sets}
use Rattle.transfer_rules.specs.Give.{is_written, mask_of, mask_of_write}
use Rattle.transfer_rules.specs.declared.act.Act.{Act}
use Rattle.transfer_rules.specs.declared.act.Act.TheVariants.{Acts}
use Rattle.transfer_rules.specs.declared.act.Aim.{Aim}
use Rattle.transfer_rules.specs.declared.act.Aim.TheVariants.{Computed, Fixed}
use Rattle.transfer_rules.specs.declared.act.Candidates.{Candidates}
use Rattle.transfer_rules.specs.declared.act.Candidates.TheVariants.{Functions, Labels}
use Rattle.transfer_rules.specs.declared.act.Exit.{Exit}
use Rattle.transfer_rules.specs.declared.act.Way.{Way}
use Rattle.transfer_rules.specs.declared.act.Way.TheVariants.{Forks, CallsTo, JumpsTo, ReturnsBy}
use Rattle.transfer_rules.specs.declared.step.Source.{Source}
use Rattle.transfer_rules.specs.declared.step.Source.TheVariants.{Anything, Exactly, Loaded, Ranged}
use Rattle.transfer_rules.specs.declared.step.Step.{Step}
use Rattle.transfer_rules.specs.declared.step.Write.{Write}
use Rattle.closed_steps.specs.Act.{ActIs, StepIs, aim_of, is_jump}

-- the cell of a register that is written is in the mask of its write
written : (depth r : ℕ) → r < 32 → r ≢ 0 → is_written (cell_of depth r) ≡ true
written depth r low some =
    and_from (not (cell_of depth r == 0)) (nat_lt (cell_of depth r) 48)
    (not_from_false (cell_of depth r == 0) (ne_eqb (cell_of depth r) 0 (λ e. some (cells_tell_registers_apart.zero depth r e))))
    (lt-ltb (cell_of depth r) 48 (cells_tell_registers_apart.within depth r low))

one_has : (depth r mask : ℕ) (source : Source) → r < 32 → r ≢ 0 → has_cell (mask_of_write (into depth r source) mask) (cell_of depth r) ≡ true
one_has depth r mask source low some =
    subst (λ (b : Bool). has_cell (if b then with_cell mask (cell_of depth r) else mask) (cell_of depth r) ≡ true) (sym (written depth r low some))
    (has-with mask (cell_of depth r) (cell_of depth r)
    ∙ or_right (has_cell mask (cell_of depth r)) (cell_of depth r == cell_of depth r) (eq-eqb (cell_of depth r) (cell_of depth r) refl))

more_has : (write : Option Write) (mask c : ℕ) → has_cell mask c ≡ true → has_cell (mask_of_write write mask) c ≡ true
more_has None mask c has = has
more_has (Some w) mask c has = by (is_written w.cell) where
  by : (b : Bool) → has_cell (if b then with_cell mask w.cell else mask) c ≡ true
  by true = has-with mask w.cell c ∙ or_left (has_cell mask c) (c == w.cell) has
  by false = has

only : (rd r : ℕ) → Contains (rd ∷ []) r → rd ≡ r
only rd r has = one has.0 has.1 has.2 where
  one : (k : ℕ) → k < 1 → slice_index_or (rd ∷ []) k r ≡ r → rd ≡ r
  one zero below is = is
  one (suc k) below is = absurd (omega arith)

-- the registers that are written, as cells
abbrev WritesAll : List ℕ → Step → Type 0
WritesAll registers step = (r : ℕ) → r < 32 → r ≢ 0 → Contains registers r → has_cell (mask_of step) (cell_of step.depth r) ≡ true

sets_all : (depth rd : ℕ) (source : Source) (flags : Option Flags) → WritesAll (rd ∷ []) (sets depth rd source flags)
sets_all depth rd source flags r low some has =
    subst (λ (n : ℕ). has_cell (mask_of (sets depth rd source flags)) (cell_of depth n) ≡ true) (only rd r has)
    (one_has depth rd 0 source (subst (λ (n : ℕ). n < 32) (sym (only rd r has)) low) (λ e. some (sym (only rd r has) ∙ e)))

nothing_all : (depth : ℕ) → WritesAll [] (nothing depth)
nothing_all depth r low some has = absurd (let below = has.1 in omega arith)

plain_is : (p : Place) (i : Instr) (step : Step) → ((from to : ℕ) → annuls (Some i) from to ≡ false) → WritesAll (registers_written i) step
    → ActIs p i (plain step)
plain_is p i step whole all =
    record {
      forks = λ first second e. absurd (cc);
      onward = λ slot. refl;
      whole = λ slot. whole;
      flat = λ other. absurd (other refl);
      computed = λ left right kind e. absurd (cc);
      writes = all;
    }

either : (p : Place) (i : Instr) (b : Bool) (x y : Act) → ActIs p i x → ActIs p i y → ActIs p i (if b then x else y)
either p i true x y one two = one
either p i false x y one two = two

in_line_is : (p : Place) (i : Instr) (act : Act) → (is_next p.next p.pc ≡ true → ActIs p i act) → ActIs p i (in_line p act)
in_line_is p i act is = by (is_next p.next p.pc) is where
  by : (b : Bool) → (b ≡ true → ActIs p i act) → ActIs p i (if b then act else open_instruction)
  by true here = here refl
  by false here = tt

-- a transfer that stands in order
moves_is : (p : Place) (i : Instr) (step : Step) (way : Way) → is_next p.next p.pc ≡ true → step.depth ≡ p.depth
    → ((first second : Option Exit) → way ≡ Forks first second → step ≡ nothing p.depth)
    → ((left right : Right) (kind : Candidates) → aim_of way ≡ Some (Computed left right kind) → is_jump i ≡ true)
    → WritesAll (registers_written i) step → StepIs p i step way
moves_is p i step way order flat forks computed all =
    record {
      forks = forks;
      onward = λ slot. absurd (both_ways (is_next p.next p.pc) slot order);
      whole = λ slot. absurd (both_ways (is_next p.next p.pc) slot order);
      flat = λ other. flat;
      computed = computed;
      writes = all;
    }

linked_is : (p : Place) (i : Instr) (rd : ℕ) (way : Way) → is_next p.next p.pc ≡ true → ((first second : Option Exit) → way ≡ Forks first second → ⊥)
    → ((left right : Right) (kind : Candidates) → aim_of way ≡ Some (Computed left right kind) → is_jump i ≡ true)
    → WritesAll (registers_written i) (sets p.depth rd (Exactly p.pc) None) → ActIs p i (linked p rd way)
linked_is p i rd way order other computed all =
    moves_is p i (sets p.depth rd (Exactly p.pc) None) way order refl (λ first second e. absurd (other first second e)) computed all

calling_is : (p : Place) (i : Instr) (delay : Option Instr) (call jump : Aim) → is_next p.next p.pc ≡ true
    → ((aim : Aim) (left right : Right) (kind : Candidates) → (aim ≡ call) ⊎ (aim ≡ jump) → Some aim ≡ Some (Computed left right kind) → is_jump i ≡ true)
    → WritesAll (registers_written i) (sets p.depth 15 (Exactly p.pc) None) → ActIs p i (calling p delay call jump)
calling_is p i delay call jump order computed all =
    either p i (is_save delay) open_instruction (linked p 15 (if lets_call delay then CallsTo call else JumpsTo jump)) tt (by (lets_call delay))
  where
    by : (b : Bool) → ActIs p i (linked p 15 (if b then CallsTo call else JumpsTo jump))
    by true = linked_is p i 15 (CallsTo call) order (λ first second e. absurd (cc)) (λ left right kind e. computed call left right kind (inl refl) e) all
    by false = linked_is p i 15 (JumpsTo jump) order (λ first second e. absurd (cc)) (λ left right kind e. computed jump left right kind (inr refl) e) all

-- a return leaves no address
return_leaves : (rd rs1 : ℕ) (second : Second) → is_return rd rs1 second ≡ true → rd ≡ 0
return_leaves rd rs1 (Reg r) is = absurd (false≢true is)
return_leaves rd rs1 (Imm n) is = eqb-true rd 0 (and_parts (rd == 0) ((int_eq n (pos 8) || int_eq n (pos 12)) && ((rs1 == 15) || (rs1 == 31))) is).0

jump_is : (p : Place) (delay : Option Instr) (rd rs1 : ℕ) (second : Second) → is_next p.next p.pc ≡ true
    → ActIs p (Jmpl rd rs1 second) (jump_to p delay rd rs1 second)
jump_is p delay rd rs1 second order = by_link (rd == 15) refl where
  fifteen : (rd == 15) ≡ true → WritesAll (rd ∷ []) (sets p.depth 15 (Exactly p.pc) None)
  fifteen same = subst (λ (n : ℕ). WritesAll (n ∷ []) (sets p.depth 15 (Exactly p.pc) None)) (sym (eqb-true rd 15 same))
      (sets_all p.depth 15 (Exactly p.pc) None)

  none : is_return rd rs1 second ≡ true → WritesAll (rd ∷ []) (nothing p.depth)
  none is r low some has = absurd (some (sym (only rd r has) ∙ return_leaves rd rs1 second is))

  by_return : (b : Bool) → is_return rd rs1 second ≡ b
      → ActIs p (Jmpl rd rs1 second) (if b then Acts (nothing p.depth) (ReturnsBy (cell_of p.depth rs1)) else linked p rd
      (JumpsTo (sum_of p rs1 second Labels)))
  by_return true is = moves_is p (Jmpl rd rs1 second) (nothing p.depth) (ReturnsBy (cell_of p.depth rs1)) order refl (λ first other e. absurd (cc))
      (λ left right kind e. refl) (none is)
  by_return false is =
      linked_is p (Jmpl rd rs1 second) rd (JumpsTo (sum_of p rs1 second Labels)) order (λ first other e. absurd (cc)) (λ left right kind e. refl)
      (sets_all p.depth rd (Exactly p.pc) None)

  by_link : (b : Bool) → (rd == 15) ≡ b
      → ActIs p (Jmpl rd rs1 second)
      (if b then calling p delay (sum_of p rs1 second Functions) (sum_of p rs1 second Labels)
      else (if is_return rd rs1 second then Acts (nothing p.depth) (ReturnsBy (cell_of p.depth rs1)) else linked p rd (JumpsTo (sum_of p rs1 second Labels))))
  by_link true same = calling_is p (Jmpl rd rs1 second) delay (sum_of p rs1 second Functions) (sum_of p rs1 second Labels) order
      (λ aim left right kind e f. refl) (fifteen same)
  by_link false other = by_return (is_return rd rs1 second) refl

call_is : (p : Place) (disp : ℕ) (delay : Option Instr) (target : ℕ) → is_next p.next p.pc ≡ true → ActIs p (Call disp) (call_to p delay target)
call_is p disp delay target order =
    either p (Call disp) (target == behind p.pc 8) open_instruction (calling p delay (Fixed target) (Fixed target)) tt
    (calling_is p (Call disp) delay (Fixed target) (Fixed target) order fixed (sets_all p.depth 15 (Exactly p.pc) None))
  where
    fixed : (aim : Aim) (left right : Right) (kind : Candidates) → (aim ≡ Fixed target) ⊎ (aim ≡ Fixed target)
        → Some aim ≡ Some (Computed left right kind) → is_jump (Call disp) ≡ true
    fixed aim left right kind (inl is) e = absurd (cc)
    fixed aim left right kind (inr is) e = absurd (cc)

two_all : (depth rd : ℕ) → WritesAll (rd ∷ (rd + 1) ∷ [])
    (record { depth = depth; first = into depth rd Anything; second = into depth (rd + 1) Anything; flags = None })
two_all depth rd r low some has = by has.0 has.1 has.2 where
  step : Step
  step = record { depth = depth; first = into depth rd Anything; second = into depth (rd + 1) Anything; flags = None }

  by : (k : ℕ) → k < 2 → slice_index_or (rd ∷ (rd + 1) ∷ []) k r ≡ r
      → has_cell (mask_of_write (into depth (rd + 1) Anything) (mask_of_write (into depth rd Anything) 0)) (cell_of depth r) ≡ true
  by zero below is =
      more_has (into depth (rd + 1) Anything) (mask_of_write (into depth rd Anything) 0) (cell_of depth r)
      (subst (λ (n : ℕ). has_cell (mask_of_write (into depth n Anything) 0) (cell_of depth r) ≡ true) (sym is) (one_has depth r 0 Anything low some))
  by (suc zero) below is =
      subst (λ (n : ℕ). has_cell (mask_of_write (into depth n Anything) (mask_of_write (into depth rd Anything) 0)) (cell_of depth r) ≡ true) (sym is)
      (one_has depth r (mask_of_write (into depth rd Anything) 0) Anything low some)
  by (suc (suc k)) below is = absurd (omega arith)

read_is : (p : Place) (kind : LoadKind) (rd rs1 : ℕ) (second : Second) → ActIs p (Load kind rd rs1 second) (plain (read p.depth kind rd rs1 second))
read_is p Ld rd rs1 second = plain_is p (Load Ld rd rs1 second) (read p.depth Ld rd rs1 second) (λ from to. refl)
    (sets_all p.depth rd (Loaded (register p.depth rs1) (operand p.depth second)) None)
read_is p Ldub rd rs1 second = plain_is p (Load Ldub rd rs1 second) (read p.depth Ldub rd rs1 second) (λ from to. refl)
    (sets_all p.depth rd (Ranged (pos 0) (pos 255)) None)
read_is p Lduh rd rs1 second = plain_is p (Load Lduh rd rs1 second) (read p.depth Lduh rd rs1 second) (λ from to. refl)
    (sets_all p.depth rd (Ranged (pos 0) (pos 65535)) None)
read_is p Ldd rd rs1 second = plain_is p (Load Ldd rd rs1 second) (read p.depth Ldd rd rs1 second) (λ from to. refl) (two_all p.depth rd)
read_is p Ldsb rd rs1 second = plain_is p (Load Ldsb rd rs1 second) (read p.depth Ldsb rd rs1 second) (λ from to. refl)
    (sets_all p.depth rd (Ranged (negsuc 127) (pos 127)) None)
read_is p Ldsh rd rs1 second = plain_is p (Load Ldsh rd rs1 second) (read p.depth Ldsh rd rs1 second) (λ from to. refl)
    (sets_all p.depth rd (Ranged (negsuc 32767) (pos 32767)) None)

-- an instruction that sets one register, and one that sets none
setting_is : (p : Place) (i : Instr) (depth rd : ℕ) (source : Source) (flags : Option Flags) → ((from to : ℕ) → annuls (Some i) from to ≡ false)
    → registers_written i ≡ rd ∷ [] → ActIs p i (plain (sets depth rd source flags))
setting_is p i depth rd source flags whole written =
    plain_is p i (sets depth rd source flags) whole
    (subst (λ (rs : List ℕ). WritesAll rs (sets depth rd source flags)) (sym written) (sets_all depth rd source flags))

resting_is : (p : Place) (i : Instr) → ((from to : ℕ) → annuls (Some i) from to ≡ false) → registers_written i ≡ [] → ActIs p i (plain (nothing p.depth))
resting_is p i whole written = plain_is p i (nothing p.depth) whole
    (subst (λ (rs : List ℕ). WritesAll rs (nothing p.depth)) (sym written) (nothing_all p.depth))

branching_is : (p : Place) (i : Instr) (way : Way) → is_next p.next p.pc ≡ true
    → ((left right : Right) (kind : Candidates) → aim_of way ≡ Some (Computed left right kind) → is_jump i ≡ true) → registers_written i ≡ []
    → StepIs p i (nothing p.depth) way
branching_is p i way order none written =
    moves_is p i (nothing p.depth) way order refl (λ first second e. refl) none
    (subst (λ (rs : List ℕ). WritesAll rs (nothing p.depth)) (sym written) (nothing_all p.depth))

-- so it is of each instruction
pub acts_are : (eight : Bool) (p : Place) (delay : Option Instr) (i : Instr) → ActIs p i (act_of eight p delay i)
acts_are eight p delay (Call disp) = in_line_is p (Call disp) _ (call_is p disp delay _)
acts_are eight p delay (Unimp imm) = tt
acts_are eight p delay (Sethi rd imm) = setting_is p (Sethi rd imm) p.depth rd _ _ (λ from to. refl) refl
acts_are eight p delay (Branch annul cond disp) =
    in_line_is p (Branch annul cond disp) _ (λ order. branching_is p (Branch annul cond disp) _ order (λ left right kind e. absurd (cc)) refl)
acts_are eight p delay (FloatBranch annul cond disp) =
    in_line_is p (FloatBranch annul cond disp) _
    (λ order. branching_is p (FloatBranch annul cond disp) _ order (λ left right kind e. absurd (cc)) refl)
acts_are eight p delay (Alu op cc' rd rs1 second) = setting_is p (Alu op cc' rd rs1 second) p.depth rd _ _ (λ from to. refl) refl
acts_are eight p delay (Tagged op rd rs1 second) = setting_is p (Tagged op rd rs1 second) p.depth rd _ _ (λ from to. refl) refl
acts_are eight p delay (MulStep rd rs1 second) = setting_is p (MulStep rd rs1 second) p.depth rd _ _ (λ from to. refl) refl
acts_are eight p delay (Shift op rd rs1 second) = setting_is p (Shift op rd rs1 second) p.depth rd _ _ (λ from to. refl) refl
acts_are eight p delay (ReadY rd) = setting_is p (ReadY rd) p.depth rd _ _ (λ from to. refl) refl
acts_are eight p delay (WriteY rs1 second) = resting_is p (WriteY rs1 second) (λ from to. refl) refl
acts_are eight p delay (FloatOp these) = resting_is p (FloatOp these) (λ from to. refl) refl
acts_are eight p delay (FloatCmp these) = resting_is p (FloatCmp these) (λ from to. refl) refl
acts_are eight p delay (Jmpl rd rs1 second) = in_line_is p (Jmpl rd rs1 second) _ (jump_is p delay rd rs1 second)
acts_are eight p delay (Flush rs1 second) = resting_is p (Flush rs1 second) (λ from to. refl) refl
acts_are eight p delay (Save rd rs1 second) =
    either p (Save rd rs1 second) (p.depth == 0) _ open_instruction (setting_is p (Save rd rs1 second) 1 rd _ _ (λ from to. refl) refl) tt
acts_are eight p delay (Restore rd rs1 second) =
    either p (Restore rd rs1 second) (p.depth == 1) _ open_instruction (setting_is p (Restore rd rs1 second) 0 rd _ _ (λ from to. refl) refl) tt
acts_are eight p delay (Ticc cond rs1 second) = either p (Ticc cond rs1 second) (cond == 0) _ _ (resting_is p (Ticc cond rs1 second) (λ from to. refl) refl) tt
acts_are eight p delay (Load kind rd rs1 second) =
    either p (Load kind rd rs1 second) (is_odd_double_load kind rd) open_instruction _ tt (read_is p kind rd rs1 second)
acts_are eight p delay (Store kind rd rs1 second) =
    either p (Store kind rd rs1 second) (is_odd_double_store kind rd) open_instruction _ tt (resting_is p (Store kind rd rs1 second) (λ from to. refl) refl)
acts_are eight p delay (Atomic swap rd rs1 second) = setting_is p (Atomic swap rd rs1 second) p.depth rd _ _ (λ from to. refl) refl
acts_are eight p delay (FloatMem kind rd rs1 second) = resting_is p (FloatMem kind rd rs1 second) (λ from to. refl) refl
acts_are eight p delay (Unmodelled these) = tt
acts_are eight p delay (Unknown these) = tt
acts_are eight p delay (Multiply cc' rd rs1 second) =
    either p (Multiply cc' rd rs1 second) eight _ open_instruction (setting_is p (Multiply cc' rd rs1 second) p.depth rd _ _ (λ from to. refl) refl) tt
acts_are eight p delay (Divide cc' rd rs1 second) =
    either p (Divide cc' rd rs1 second) eight _ open_instruction (setting_is p (Divide cc' rd rs1 second) p.depth rd _ _ (λ from to. refl) refl) tt
