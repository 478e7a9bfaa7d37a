-- Each instruction does to cells and condition codes what its step says.
use Rattle.std.proofs.Common.{◌≡◌, ℕ, pos, negsuc, ◌+◌, ◌*◌, ◌%◌, ◌^◌, ◌<◌, inl, inr, ◌&&◌, Bool, true, false, List, Option, Some, None, length, refl}
use Rattle.std.proofs.Common.{sym, ap, subst, ◌∙◌, arith, cond, eqb, eq-eqb}
use Rattle.std.specs.Prelude.{◌==◌, not, nat_lt, slice_set, if◌then◌else◌}
use Rattle.std.proofs.lemmas.Bool.{and_parts, cases_lt, eqb-true, false≢true}
use Rattle.std.proofs.lemmas.Bool.Decides.{nat_tests}
use Rattle.std.proofs.lemmas.Int.{ints}
use Rattle.std.proofs.lemmas.List.{length-set}
use Rattle.abs_state.specs.declared.flags.Flags.{Flags as Known}
use Rattle.abs_state.specs.declared.flags.Flags.TheVariants as flags
use Rattle.abs_state.specs.declared.key.Place.{Place}
use Rattle.bt_image.specs.Image.{word}
use Rattle.bt_image.specs.Refusal.{first_refusal}
use Rattle.call_effects.specs.Cell.{cell_of}
use Rattle.cell_places.proofs.PlaceLemmas.{registers_hold_contents}
use Rattle.cell_places.specs.Place.{window_at, content_of, with_content, IsAtDepth}
use Rattle.sparc_decode.specs.Instr.{InRange, IsOperand}
use Rattle.sparc_decode.specs.declared.instruction.AluOp.{AluOp}
use Rattle.sparc_decode.specs.declared.instruction.AluOp.TheVariants as alu
use Rattle.sparc_decode.specs.declared.instruction.FloatKind.{FloatKind}
use Rattle.sparc_decode.specs.declared.instruction.Instr.{Instr}
use Rattle.sparc_decode.specs.declared.instruction.Instr.TheVariants.{Call, Unimp, Sethi, Branch, FloatBranch, Alu, Tagged, MulStep, Shift, ReadY}
use Rattle.sparc_decode.specs.declared.instruction.Instr.TheVariants.{WriteY, FloatOp, FloatCmp, Jmpl, Flush, Save, Restore, Ticc, Load, Store}
use Rattle.sparc_decode.specs.declared.instruction.Instr.TheVariants.{Atomic, FloatMem, Unmodelled as UnmodelledWord, Unknown, Multiply, Divide}
use Rattle.sparc_decode.specs.declared.instruction.LoadKind.{LoadKind}
use Rattle.sparc_decode.specs.declared.instruction.LoadKind.TheVariants.{Ld, Ldub, Lduh, Ldd, Ldsb, Ldsh}
use Rattle.sparc_decode.specs.declared.instruction.Second.{Second}
use Rattle.sparc_decode.specs.declared.instruction.Second.TheVariants.{Reg, Imm}
use Rattle.sparc_decode.specs.declared.instruction.ShiftOp.{ShiftOp}
use Rattle.sparc_decode.specs.declared.instruction.ShiftOp.TheVariants.{Sll, Srl, Sra}
use Rattle.sparc_decode.specs.declared.instruction.StoreKind.{StoreKind}
use Rattle.sparc_decode.specs.declared.instruction.TaggedOp.{TaggedOp}
use Rattle.sparc_decode.specs.declared.instruction.TaggedOp.TheVariants.{Taddcc, Tsubcc, Taddcctv, Tsubcctv}
use Rattle.sparc_machine.specs.Effect.{Effect, Done, Trapped, goes_on, flags_in, with_flags, flags_from, is_in_order, in_order, target_of, address_in}
use Rattle.sparc_machine.specs.Effect.{alu_result, alu_flags, operated, tagged_result, shift_result, branched, float_taken, jumped, is_invalid}
use Rattle.sparc_machine.specs.Effect.{turned, freely_flagged, read_double, read_one, read_into, load_effect, is_odd_double_load, write_trap}
use Rattle.sparc_machine.specs.Effect.{store_effect, is_odd_double_store, atomic_effect, float_effect, unless_trapped, product_of, effect_of}
use Rattle.sparc_machine.specs.Frame.{IsFree, is_return, lets_call}
use Rattle.sparc_machine.specs.Machine.{IsMachine, register_of, operand_of, with_register, going_to}
use Rattle.sparc_machine.specs.Memory.{constant_bytes, extended, load_size, store_size, atomic_size, float_size, is_float_store, read_number}
use Rattle.sparc_machine.specs.Memory.{first_word, second_word, sign_extended}
use Rattle.sparc_machine.specs.Register.{physical_of}
use Rattle.sparc_machine.specs.declared.free.Free.{Free}
use Rattle.sparc_machine.specs.declared.machine.Machine.{Machine}
use Rattle.sparc_machine.specs.declared.trap.Trap.{Trap}
use Rattle.sparc_machine.specs.declared.trap.Trap.TheVariants.{Misaligned, Unmodelled, Overflow, Underflow}
use Rattle.sparc_runs.proofs.Bounds.{register_word, operand_word, alu_word, shift_word, tagged_word, loaded_word, first_below, second_below}
use Rattle.sparc_runs.specs.Sound.{AreBytes}
use Rattle.step_covers.proofs.CodeLemmas.{codes_mean}
use Rattle.step_covers.proofs.FollowLemmas.{window_kept, flags_kept, register_is, operand_is, new_contents, new_there, new_elsewhere, sets_follow}
use Rattle.step_covers.proofs.FollowLemmas.{nothing_follows, going_follows}
use Rattle.step_covers.proofs.ReadLemmas.{byte_read, half_read, word_is_constant}
use Rattle.step_covers.specs.Follows.{Gives, FlagsFollow, FollowsIn}
use Rattle.transfer_acts.specs.Act.{act_of, behind, in_line, is_next, call_to, calling, jump_to, is_save, linked, open_instruction, plain, directions}
use Rattle.transfer_acts.specs.Act.{test_of, untested, save, restore, sum_of}
use Rattle.transfer_acts.specs.Flag.{of_operation, where_set}
use Rattle.transfer_acts.specs.Operand.{register, operand, operation, tagged_operation, shift_operation}
use Rattle.transfer_acts.specs.Step.{nothing, sets, applied, read, found}
use Rattle.transfer_rules.specs.declared.act.Act.{Act}
use Rattle.transfer_rules.specs.declared.act.Act.TheVariants.{Dead, Open, Acts}
use Rattle.transfer_rules.specs.declared.act.Aim.{Aim}
use Rattle.transfer_rules.specs.declared.act.Candidates.TheVariants.{Functions, Labels}
use Rattle.transfer_rules.specs.declared.act.Way.{Way}
use Rattle.transfer_rules.specs.declared.act.Way.TheVariants.{CallsTo, JumpsTo, ReturnsBy}
use Rattle.transfer_rules.specs.declared.step.Source.{Source}
use Rattle.transfer_rules.specs.declared.step.Source.TheVariants.{Anything, Exactly, Ranged, Loaded}
use Rattle.transfer_rules.specs.declared.step.Step.{Step}
use Rattle.value_lattice.specs.Order.{rank_of}
use Rattle.value_lattice.specs.Value.{IsBetween}
use Rattle.value_ops.specs.Operation.{result_of}
use Rattle.value_ops.specs.declared.op.Op.{Op}
use Rattle.value_ops.specs.declared.op.Op.TheVariants as op
use Rattle.word_ops.specs.Condition.{holds_of}
use Rattle.word_ops.specs.Word.{sum_of as sum_word}
use Rattle.word_ops.specs.declared.arithmetic.Flags.{Flags}

-- the results of the machine are those of the operations on values
alu_is : (o : AluOp) (x y : ℕ) (c : Bool) → alu_result o x y c ≡ result_of (operation o) c x y
alu_is alu.Add x y c = refl
alu_is alu.And x y c = refl
alu_is alu.Or x y c = refl
alu_is alu.Xor x y c = refl
alu_is alu.Sub x y c = refl
alu_is alu.Andn x y c = refl
alu_is alu.Orn x y c = refl
alu_is alu.Xnor x y c = refl
alu_is alu.Addx x y c = refl
alu_is alu.Subx x y c = refl

tagged_is : (o : TaggedOp) (x y : ℕ) → tagged_result o x y ≡ result_of (tagged_operation o) false x y
tagged_is Taddcc x y = refl
tagged_is Tsubcc x y = refl
tagged_is Taddcctv x y = refl
tagged_is Tsubcctv x y = refl

shift_is : (o : ShiftOp) (x y : ℕ) → shift_result o x y ≡ result_of (shift_operation o) false x y
shift_is Sll x y = refl
shift_is Srl x y = refl
shift_is Sra x y = refl

-- what bytes and halfwords are, read with sign
byte_between : (w : ℕ) → w < 2 ^ 8 → IsBetween (rank_of (pos 0)) (rank_of (pos 255)) w
byte_between w low = (omega (arith, ints), omega (arith, ints))

half_between : (w : ℕ) → w < 2 ^ 16 → IsBetween (rank_of (pos 0)) (rank_of (pos 65535)) w
half_between w low = (omega (arith, ints), omega (arith, ints))

signed_byte : (x : ℕ) → x < 2 ^ 8 → IsBetween (rank_of (negsuc 127)) (rank_of (pos 127)) (sign_extended 8 x)
signed_byte x low = elim (cases_lt x (2 ^ 7)) [
  | inl small ↦ (let t : nat_lt x (2 ^ 7) ≡ true = grind (arith, nat_tests) in rw t (omega (arith, ints), omega (arith, ints)))
  | inr large ↦ (let t : nat_lt x (2 ^ 7) ≡ false = grind (arith, nat_tests) in rw t (omega (arith, ints), omega (arith, ints)))
]

signed_half : (x : ℕ) → x < 2 ^ 16 → IsBetween (rank_of (negsuc 32767)) (rank_of (pos 32767)) (sign_extended 16 x)
signed_half x low = elim (cases_lt x (2 ^ 15)) [
  | inl small ↦ (let t : nat_lt x (2 ^ 15) ≡ true = grind (arith, nat_tests) in rw t (omega (arith, ints), omega (arith, ints)))
  | inr large ↦ (let t : nat_lt x (2 ^ 15) ≡ false = grind (arith, nat_tests) in rw t (omega (arith, ints), omega (arith, ints)))
]

module _ (image : List ℕ) (free : Free) (cwp : ℕ) (p : Place) (m : Machine) (accepted : first_refusal image ≡ None) (bytes : AreBytes image)
    (within : IsFree free) (machine : IsMachine m) (at : IsAtDepth cwp p.depth m) (pc : m.pc ≡ p.pc) where
  -- an effect that is no trap follows by a step, and by that of an act
  abbrev pub StepFollows : Step → Effect → Type 0
  StepFollows step (Done after annulled) = FollowsIn image step cwp m after
  StepFollows step (Trapped trap) = Unit {0}

  abbrev pub ActFollows : Act → Effect → Type 0
  ActFollows Dead effect = Unit {0}
  ActFollows (Open kind) effect = Unit {0}
  ActFollows (Acts step way) effect = StepFollows step effect

  either : (b : Bool) (x y : Act) (effect : Effect) → ActFollows x effect → ActFollows y effect → ActFollows (if b then x else y) effect
  either true x y effect h k = h
  either false x y effect h k = k

  one_of : (step : Step) (b : Bool) (x y : Effect) → StepFollows step x → StepFollows step y → StepFollows step (if b then x else y)
  one_of step true x y h k = h
  one_of step false x y h k = k

  unless : (step : Step) (trap : Option Trap) (x : Effect) → StepFollows step x → StepFollows step (unless_trapped trap x)
  unless step None x h = h
  unless step (Some trap) x h = tt

  trapped : (act : Act) (trap : Trap) → ActFollows act (Trapped trap)
  trapped Dead trap = tt
  trapped (Open kind) trap = tt
  trapped (Acts step way) trap = tt

  -- a register is set, and control goes on
  setting : (base : Machine) (d rd value : ℕ) (source : Source) (known : Option Known) → base.regs ≡ m.regs → IsAtDepth cwp d base → rd < 32
      → Gives image (content_of m cwp) source value → FlagsFollow known (content_of (with_register base rd value) cwp) (flags_in m) (flags_in base)
      → StepFollows (sets d rd source known) (goes_on (with_register base rd value))
  setting base d rd value source known same there low gives flags =
      let x : Machine = with_register base rd value in
      going_follows image (sets d rd source known) cwp m x x.npc ((x.npc + 4) % 2 ^ 32)
      (sets_follow cwp d m base same there rd value low image source known gives flags)

  -- nothing is written
  resting : StepFollows (nothing p.depth) (goes_on m)
  resting = going_follows image (nothing p.depth) cwp m m m.npc ((m.npc + 4) % 2 ^ 32) (nothing_follows image cwp p.depth m at)

  -- what an operation on two operands gives
  gives_applied : (o : Op) (carry : Bool) (rs1 : ℕ) (second : Second) (value : ℕ) → rs1 < 32 → IsOperand second → value < 2 ^ 32
      → value ≡ result_of o carry (register_of m rs1) (operand_of m second) → Gives image (content_of m cwp) (applied o p.depth rs1 second) value
  gives_applied o carry rs1 second value near range word is =
      record {
        word = word;
        may =
            record {
              first = register_of m rs1;
              second = operand_of m second;
              carry = carry;
              is_first = register_is cwp p.depth m at machine rs1 near;
              is_second = operand_is cwp p.depth m at machine second range;
              is = is;
            };
      }

  -- operations of the arithmetic and logical unit
  alu_gives : (o : AluOp) (rs1 : ℕ) (second : Second) → rs1 < 32 → IsOperand second
      → Gives image (content_of m cwp) (applied (operation o) p.depth rs1 second) (alu_result o (register_of m rs1) (operand_of m second) m.c)
  alu_gives o rs1 second near range =
      gives_applied (operation o) m.c rs1 second (alu_result o (register_of m rs1) (operand_of m second) m.c) near range
      (alu_word o (register_of m rs1) (operand_of m second) m.c (register_word m rs1 machine) (operand_word m second machine range))
      (alu_is o (register_of m rs1) (operand_of m second) m.c)

  alu_follows : (o : AluOp) (cc : Bool) (rd rs1 : ℕ) (second : Second) → rd < 32 → rs1 < 32 → IsOperand second
      → StepFollows (sets p.depth rd (applied (operation o) p.depth rs1 second) (where_set cc (of_operation o p.depth rd rs1 second)))
      (operated m o cc rd (register_of m rs1) (operand_of m second))
  alu_follows o false rd rs1 second low near range =
      setting m p.depth rd (alu_result o (register_of m rs1) (operand_of m second) m.c) (applied (operation o) p.depth rs1 second) None refl at low
      (alu_gives o rs1 second near range) refl
  alu_follows o true rd rs1 second low near range =
      let codes : Flags = alu_flags o (register_of m rs1) (operand_of m second) m.c in
      let value : ℕ = alu_result o (register_of m rs1) (operand_of m second) m.c in
      let there : IsAtDepth cwp p.depth (with_flags m codes) = record { window = at.window; shallow = at.shallow; is = at.is; size = at.size } in
      setting (with_flags m codes) p.depth rd value (applied (operation o) p.depth rs1 second) (Some (of_operation o p.depth rd rs1 second)) refl there low
      (alu_gives o rs1 second near range)
      (codes_mean p.depth m machine rd value low (content_of (with_register (with_flags m codes) rd value) cwp)
      (new_there cwp p.depth m (with_flags m codes) refl there rd value low)
      (λ r low_r other.
      new_elsewhere cwp p.depth m (with_flags m codes) refl there rd value low r low_r other ∙ sym ((registers_hold_contents.read) cwp p.depth m r at low_r))
      o rs1 second m.c near range refl)

  -- condition codes that are free
  freely : (cc : Bool) (rd value : ℕ) (source : Source) → rd < 32 → Gives image (content_of m cwp) source value
      → StepFollows (sets p.depth rd source (where_set cc flags.Unknown)) (goes_on (with_register (freely_flagged m free cc) rd value))
  freely true rd value source low gives =
      setting (with_flags m (flags_from free.flags)) p.depth rd value source (Some flags.Unknown) refl
      (record { window = at.window; shallow = at.shallow; is = at.is; size = at.size }) low gives tt
  freely false rd value source low gives = setting m p.depth rd value source None refl at low gives refl

  -- a transfer leaves its own address in a register
  linking : (rd target : ℕ) → rd < 32 → StepFollows (sets p.depth rd (Exactly p.pc) None) (Done (going_to (with_register m rd m.pc) target) false)
  linking rd target low =
      let word = machine.pc in
      let x : Machine = with_register m rd m.pc in
      going_follows image (sets p.depth rd (Exactly p.pc) None) cwp m x x.npc target
      (sets_follow cwp p.depth m m refl at rd m.pc low image (Exactly p.pc) None
      (record { word = word; may = (let e : m.pc ≡ p.pc % 2 ^ 32 = omega arith in e) }) refl)

  linked_follows : (delay : Option Instr) (target : ℕ) (call jump : Aim)
      → ActFollows (calling p delay call jump) (in_order m (Done (going_to (with_register m 15 m.pc) target) false))
  linked_follows delay target call jump =
      either (is_save delay) open_instruction (linked p 15 (if lets_call delay then CallsTo call else JumpsTo jump)) _ tt
      (one_of (sets p.depth 15 (Exactly p.pc) None) (is_in_order m) _ (Trapped Unmodelled) (linking 15 target (omega arith)) tt)

  jump_effect : (step : Step) (rd target : ℕ) → StepFollows step (Done (going_to (with_register m rd m.pc) target) false)
      → StepFollows step (in_order m (jumped m rd target))
  jump_effect step rd target h =
      one_of step (is_in_order m) (jumped m rd target) (Trapped Unmodelled)
      (one_of step (target % 4 == 0) (Done (going_to (with_register m rd m.pc) target) false) (Trapped Misaligned) h tt) tt

  -- a return leaves no address
  no_link : (rd rs1 : ℕ) (second : Second) → is_return rd rs1 second ≡ true → rd ≡ 0
  no_link rd rs1 (Reg r) is = absurd (false≢true is)
  no_link rd rs1 (Imm n) is = eqb-true rd 0 ((and_parts (rd == 0) _ is).0)

  jump_follows : (delay : Option Instr) (rd rs1 : ℕ) (second : Second) → rd < 32
      → ActFollows (jump_to p delay rd rs1 second) (in_order m (jumped m rd (address_in m rs1 second)))
  jump_follows delay rd rs1 second low = by (rd == 15) (eqb-true rd 15) where
    target : ℕ
    target = address_in m rs1 second

    effect : ℕ → Effect
    effect r = in_order m (jumped m r (address_in m rs1 second))

    step_at : ℕ → Step
    step_at r = sets p.depth r (Exactly p.pc) None

    back : (b : Bool) → is_return rd rs1 second ≡ b
        → ActFollows (if b then Acts (nothing p.depth) (ReturnsBy (cell_of p.depth rs1)) else linked p rd (JumpsTo (sum_of p rs1 second Labels)))
        (in_order m (jumped m rd (address_in m rs1 second)))
    back false is = jump_effect (sets p.depth rd (Exactly p.pc) None) rd (address_in m rs1 second) (linking rd (address_in m rs1 second) low)
    back true is =
        let none : rd ≡ 0 = no_link rd rs1 second is in
        jump_effect (nothing p.depth) rd (address_in m rs1 second)
        (subst (λ (r : ℕ). FollowsIn image (nothing p.depth) cwp m (going_to (with_register m r m.pc) (address_in m rs1 second))) (sym none)
        (going_follows image (nothing p.depth) cwp m m m.npc (address_in m rs1 second) (nothing_follows image cwp p.depth m at)))

    by : (b : Bool) → (b ≡ true → rd ≡ 15)
        → ActFollows
        (if b then calling p delay (sum_of p rs1 second Functions) (sum_of p rs1 second Labels)
        else (if is_return rd rs1 second then Acts (nothing p.depth) (ReturnsBy (cell_of p.depth rs1)) else linked p rd (JumpsTo (sum_of p rs1 second Labels))))
        (in_order m (jumped m rd (address_in m rs1 second)))
    by false is = back (is_return rd rs1 second) refl
    by true is =
        either (is_save delay) open_instruction
        (linked p 15 (if lets_call delay then CallsTo (sum_of p rs1 second Functions) else JumpsTo (sum_of p rs1 second Labels))) _ tt
        (jump_effect (sets p.depth 15 (Exactly p.pc) None) rd (address_in m rs1 second)
        (subst (λ (r : ℕ). FollowsIn image (sets p.depth 15 (Exactly p.pc) None) cwp m (going_to (with_register m r m.pc) (address_in m rs1 second)))
        (sym (is refl))
        (linking 15 (address_in m rs1 second) (omega arith))))

  -- a branch writes nothing
  branch_follows : (annul always taken : Bool) (target : ℕ) → StepFollows (nothing p.depth) (branched m annul always taken target)
  branch_follows true true true target = going_follows image (nothing p.depth) cwp m m target ((target + 4) % 2 ^ 32) (nothing_follows image cwp p.depth m at)
  branch_follows true false true target = going_follows image (nothing p.depth) cwp m m m.npc target (nothing_follows image cwp p.depth m at)
  branch_follows false always true target = going_follows image (nothing p.depth) cwp m m m.npc target (nothing_follows image cwp p.depth m at)
  branch_follows true always false target =
      going_follows image (nothing p.depth) cwp m m ((m.pc + 8) % 2 ^ 32) ((m.pc + 12) % 2 ^ 32) (nothing_follows image cwp p.depth m at)
  branch_follows false always false target = resting

  branch_act : (way : Way) (annul cond' taken : Bool) (target : ℕ)
      → ActFollows (in_line p (Acts (nothing p.depth) way)) (in_order m (branched m annul cond' taken target))
  branch_act way annul always taken target =
      either (is_next p.next p.pc) (Acts (nothing p.depth) way) open_instruction _
      (one_of (nothing p.depth) (is_in_order m) (branched m annul always taken target) (Trapped Unmodelled) (branch_follows annul always taken target) tt) tt

  -- the window turns
  window_step : (d w : ℕ) → d < 2 → w ≡ window_at cwp d → IsAtDepth cwp d (record m { cwp = w })
  window_step d w shallow is = record { window = at.window; shallow = shallow; is = is; size = at.size }

  turning : (d w rd rs1 : ℕ) (second : Second) (trap : Trap) → d < 2 → w ≡ window_at cwp d → rd < 32 → rs1 < 32 → IsOperand second
      → StepFollows (sets d rd (applied op.Add p.depth rs1 second) None) (turned m w trap rd (address_in m rs1 second))
  turning d w rd rs1 second trap shallow is low near range =
      one_of (sets d rd (applied op.Add p.depth rs1 second) None) (is_invalid m.wim w) (Trapped trap)
      (goes_on (with_register (record m { cwp = w }) rd (address_in m rs1 second))) tt
      (setting (record m { cwp = w }) d rd (address_in m rs1 second) (applied op.Add p.depth rs1 second) None refl (window_step d w shallow is) low
      (gives_applied op.Add false rs1 second (address_in m rs1 second) near range (omega arith) (omega arith)) refl)

  save_follows : (rd rs1 : ℕ) (second : Second) → rd < 32 → rs1 < 32 → IsOperand second
      → ActFollows (save p.depth rd rs1 second) (turned m ((m.cwp + 7) % 8) Overflow rd (address_in m rs1 second))
  save_follows rd rs1 second low near range = by (p.depth == 0) (eqb-true p.depth 0) where
    by : (b : Bool) → (b ≡ true → p.depth ≡ 0)
        → ActFollows (if b then plain (sets 1 rd (applied op.Add 0 rs1 second) None) else open_instruction)
        (turned m ((m.cwp + 7) % 8) Overflow rd (address_in m rs1 second))
    by false is = tt
    by true is =
        let zero_depth : p.depth ≡ 0 = is refl in
        let here : m.cwp ≡ window_at cwp 0 = subst (λ (d : ℕ). m.cwp ≡ window_at cwp d) zero_depth at.is in
        let window = at.window in
        let there : (m.cwp + 7) % 8 ≡ window_at cwp 1 = omega arith in
        subst (λ (d : ℕ). StepFollows (sets 1 rd (applied op.Add d rs1 second) None)
        (turned m ((m.cwp + 7) % 8) Overflow rd (address_in m rs1 second))) zero_depth
        (turning 1 ((m.cwp + 7) % 8) rd rs1 second Overflow (omega arith) there low near range)

  restore_follows : (rd rs1 : ℕ) (second : Second) → rd < 32 → rs1 < 32 → IsOperand second
      → ActFollows (restore p.depth rd rs1 second) (turned m ((m.cwp + 1) % 8) Underflow rd (address_in m rs1 second))
  restore_follows rd rs1 second low near range = by (p.depth == 1) (eqb-true p.depth 1) where
    by : (b : Bool) → (b ≡ true → p.depth ≡ 1)
        → ActFollows (if b then plain (sets 0 rd (applied op.Add 1 rs1 second) None) else open_instruction)
        (turned m ((m.cwp + 1) % 8) Underflow rd (address_in m rs1 second))
    by false is = tt
    by true is =
        let one_depth : p.depth ≡ 1 = is refl in
        let here : m.cwp ≡ window_at cwp 1 = subst (λ (d : ℕ). m.cwp ≡ window_at cwp d) one_depth at.is in
        let window = at.window in
        let there : (m.cwp + 1) % 8 ≡ window_at cwp 0 = omega arith in
        subst (λ (d : ℕ). StepFollows (sets 0 rd (applied op.Add d rs1 second) None)
        (turned m ((m.cwp + 1) % 8) Underflow rd (address_in m rs1 second))) one_depth
        (turning 0 ((m.cwp + 1) % 8) rd rs1 second Underflow (omega arith) there low near range)

  -- a word of memory: where a word can be read, that one
  loads_word : (rs1 : ℕ) (second : Second) → rs1 < 32 → IsOperand second → address_in m rs1 second % 4 ≡ 0
      → Gives image (content_of m cwp) (Loaded (register p.depth rs1) (operand p.depth second))
      (read_number (constant_bytes image (address_in m rs1 second) 4) 4 free.first)
  loads_word rs1 second near range aligned =
      let a : ℕ = address_in m rs1 second in
      let sum : sum_word (register_of m rs1) (operand_of m second) false ≡ a = omega arith in
      record {
        word = loaded_word Ld image a free.first bytes (λ other. cc);
        may =
            record {
              first = register_of m rs1;
              second = operand_of m second;
              is_first = register_is cwp p.depth m at machine rs1 near;
              is_second = operand_is cwp p.depth m at machine second range;
              aligned = ap (λ (x : ℕ). x % 4) sum ∙ aligned;
              read = λ v stands.
                  (let c = word_is_constant image a v (sym (ap (λ (x : ℕ). word image x) sum) ∙ stands) in
                  ap (λ (o : Option (List ℕ)). read_number o 4 free.first) c.are ∙ sym c.number);
            };
      }

  -- what less than a word of memory is
  small_byte : (a : ℕ) → read_number (constant_bytes image a 1) 1 free.first < 2 ^ 8
  small_byte a = byte_read image a free.first bytes

  small_half : (a : ℕ) → read_number (constant_bytes image a 2) 2 free.first < 2 ^ 16
  small_half a = half_read image a free.first bytes

  -- a load of one register
  load_one : (kind : LoadKind) (rd rs1 : ℕ) (second : Second) → rd < 32 → address_in m rs1 second % load_size kind ≡ 0
      → Gives image (content_of m cwp) (found kind p.depth rs1 second)
      (extended kind (read_number (constant_bytes image (address_in m rs1 second) (load_size kind)) (load_size kind) free.first))
      → StepFollows (sets p.depth rd (found kind p.depth rs1 second) None) (read_one image free m kind rd (address_in m rs1 second))
  load_one kind rd rs1 second low aligned gives =
      setting m p.depth rd (extended kind (read_number (constant_bytes image (address_in m rs1 second) (load_size kind)) (load_size kind) free.first))
      (found kind p.depth rs1 second) None refl at low gives refl

  -- a load of two
  load_two : (rd a : ℕ) → rd + 1 < 32
      → StepFollows (record {
        depth = p.depth;
        first = Some (record { cell = cell_of p.depth rd; source = Anything });
        second = Some (record { cell = cell_of p.depth (rd + 1); source = Anything });
        flags = None;
      }) (read_double image free m rd a)
  load_two rd a low =
      let these = constant_bytes image a 8 in
      let one : ℕ = first_word (constant_bytes image a 8) free.first in
      let two : ℕ = second_word (constant_bytes image a 8) free.second in
      let x : Machine = with_register m rd one in
      let y : Machine = with_register x (rd + 1) two in
      let size : length x.regs ≡ 136 = regs_kept rd one in
      let there : IsAtDepth cwp p.depth x = record { window = at.window; shallow = at.shallow; is = window_kept m rd one ∙ at.is; size = size } in
      let codes : flags_in y ≡ flags_in m = flags_kept x (rd + 1) two ∙ flags_kept m rd one in
      record {
        window = window_kept x (rd + 1) two ∙ there.is;
        follows =
            record {
              first = one;
              second = two;
              gives_first = record { word = first_below image a free.first bytes within.first; may = first_below image a free.first bytes within.first };
              gives_second = record { word = second_below image a free.second bytes within.second; may = second_below image a free.second bytes within.second };
              contents = λ c near.
                  (registers_hold_contents.written) cwp p.depth x (rd + 1) two c there (omega arith) near
                  ∙ over_same (content_of x cwp) (with_content (content_of m cwp) (cell_of p.depth rd) one) (cell_of p.depth (rd + 1)) two c
                  (new_contents cwp p.depth m m refl at rd one (omega arith) c near);
              flags = codes;
            };
      }
    where
      regs_kept : (r v : ℕ) → length (with_register m r v).regs ≡ 136
      regs_kept r v = by (eqb r 0) where
        by : (b : Bool) → length (cond b m (record m { regs = slice_set m.regs (physical_of m.cwp r) v })).regs ≡ 136
        by true = at.size
        by false = length-set m.regs (physical_of m.cwp r) v ∙ at.size

      over_same : (f g : ℕ → ℕ) (cell v c : ℕ) → f c ≡ g c → with_content f cell v c ≡ with_content g cell v c
      over_same f g cell v c same = ap (λ (w : ℕ). if (c == cell) && not (cell == 0) then v else w) same

  load_by : (kind : LoadKind) (rd rs1 : ℕ) (second : Second) → rd < 32 → rs1 < 32 → IsOperand second → is_odd_double_load kind rd ≡ false
      → address_in m rs1 second % load_size kind ≡ 0
      → StepFollows (read p.depth kind rd rs1 second) (read_into image free m kind rd (address_in m rs1 second))
  load_by Ld rd rs1 second low near range even aligned = load_one Ld rd rs1 second low aligned (loads_word rs1 second near range aligned)
  load_by Ldub rd rs1 second low near range even aligned =
      load_one Ldub rd rs1 second low aligned
      (record {
        word = loaded_word Ldub image (address_in m rs1 second) free.first bytes (λ other. cc);
        may = byte_between _ (small_byte (address_in m rs1 second));
      })
  load_by Lduh rd rs1 second low near range even aligned =
      load_one Lduh rd rs1 second low aligned
      (record {
        word = loaded_word Lduh image (address_in m rs1 second) free.first bytes (λ other. cc);
        may = half_between _ (small_half (address_in m rs1 second));
      })
  load_by Ldd rd rs1 second low near range even aligned =
      load_two rd (address_in m rs1 second) (let odd : rd % 2 ≡ 1 → ⊥ = (λ one. false≢true (sym even ∙ eq-eqb (rd % 2) 1 one)) in omega arith)
  load_by Ldsb rd rs1 second low near range even aligned =
      load_one Ldsb rd rs1 second low aligned
      (record {
        word = loaded_word Ldsb image (address_in m rs1 second) free.first bytes (λ other. cc);
        may = signed_byte _ (small_byte (address_in m rs1 second));
      })
  load_by Ldsh rd rs1 second low near range even aligned =
      load_one Ldsh rd rs1 second low aligned
      (record {
        word = loaded_word Ldsh image (address_in m rs1 second) free.first bytes (λ other. cc);
        may = signed_half _ (small_half (address_in m rs1 second));
      })

  load_follows : (kind : LoadKind) (rd rs1 : ℕ) (second : Second) → rd < 32 → rs1 < 32 → IsOperand second
      → ActFollows (if is_odd_double_load kind rd then open_instruction else plain (read p.depth kind rd rs1 second))
      (load_effect image free m kind rd (address_in m rs1 second))
  load_follows kind rd rs1 second low near range = by (is_odd_double_load kind rd) refl where
    aligned_by : is_odd_double_load kind rd ≡ false → (b : Bool) → (address_in m rs1 second % load_size kind == 0) ≡ b
        → StepFollows (read p.depth kind rd rs1 second) (if b then read_into image free m kind rd (address_in m rs1 second) else Trapped Misaligned)
    aligned_by even false is = tt
    aligned_by even true is = load_by kind rd rs1 second low near range even (eqb-true (address_in m rs1 second % load_size kind) 0 is)

    by : (b : Bool) → is_odd_double_load kind rd ≡ b
        → ActFollows (if b then open_instruction else plain (read p.depth kind rd rs1 second))
        (if b then Trapped Unmodelled
        else (if address_in m rs1 second % load_size kind == 0 then read_into image free m kind rd (address_in m rs1 second) else Trapped Misaligned))
    by true is = tt
    by false is = aligned_by is (address_in m rs1 second % load_size kind == 0) refl

  -- stores and the forms of the floating-point unit write nothing
  store_follows : (kind : StoreKind) (rd a : ℕ) → ActFollows (if is_odd_double_store kind rd then open_instruction else plain (nothing p.depth))
      (store_effect image m kind rd a)
  store_follows kind rd a = by (is_odd_double_store kind rd) where
    by : (b : Bool) → ActFollows (if b then open_instruction else plain (nothing p.depth))
        (if b then Trapped Unmodelled else unless_trapped (write_trap image a (store_size kind)) (goes_on m))
    by true = tt
    by false = unless (nothing p.depth) (write_trap image a (store_size kind)) (goes_on m) resting

  float_follows : (kind : FloatKind) (a : ℕ) → StepFollows (nothing p.depth) (float_effect image m kind a)
  float_follows kind a =
      one_of (nothing p.depth) (is_float_store kind) (unless_trapped (write_trap image a (float_size kind)) (goes_on m)) _
      (unless (nothing p.depth) (write_trap image a (float_size kind)) (goes_on m) resting)
      (one_of (nothing p.depth) (a % float_size kind == 0) (goes_on m) (Trapped Misaligned) resting tt)

  atomic_follows : (swap : Bool) (rd a : ℕ) → rd < 32
      → StepFollows (sets p.depth rd (if swap then Anything else Ranged (pos 0) (pos 255)) None) (atomic_effect image free m swap rd a)
  atomic_follows true rd a low =
      unless (sets p.depth rd Anything None) (write_trap image a (atomic_size true)) (goes_on (with_register m rd free.first))
      (setting m p.depth rd free.first Anything None refl at low (record { word = within.first; may = within.first }) refl)
  atomic_follows false rd a low =
      unless (sets p.depth rd (Ranged (pos 0) (pos 255)) None) (write_trap image a (atomic_size false)) (goes_on (with_register m rd (free.first % 2 ^ 8)))
      (setting m p.depth rd (free.first % 2 ^ 8) (Ranged (pos 0) (pos 255)) None refl at low
      (record { word = omega arith; may = byte_between (free.first % 2 ^ 8) (omega arith) }) refl)

  -- a register is set to a word of its own
  plain_sets : (rd value : ℕ) (source : Source) → rd < 32 → Gives image (content_of m cwp) source value
      → StepFollows (sets p.depth rd source None) (goes_on (with_register m rd value))
  plain_sets rd value source low gives = setting m p.depth rd value source None refl at low gives refl

  ticc_follows : (condition : ℕ) → ActFollows (if condition == 0 then plain (nothing p.depth) else open_instruction)
      (if condition == 0 then goes_on m else Trapped Unmodelled)
  ticc_follows condition = by (condition == 0) where
    by : (b : Bool) → ActFollows (if b then plain (nothing p.depth) else open_instruction) (if b then goes_on m else Trapped Unmodelled)
    by true = resting
    by false = tt

  -- each instruction follows by the step of its act
  pub act_follows : (eight : Bool) (delay : Option Instr) (i : Instr) → InRange i → ActFollows (act_of eight p delay i) (effect_of image free m i)
  act_follows eight delay (Call disp) range =
      either (is_next p.next p.pc) (call_to p delay ((p.pc + disp * 4) % 2 ^ 32)) open_instruction _
      (either ((p.pc + disp * 4) % 2 ^ 32 == behind p.pc 8) open_instruction _ _ tt (linked_follows delay ((m.pc + disp * 4) % 2 ^ 32) _ _)) tt
  act_follows eight delay (Unimp imm) range = tt
  act_follows eight delay (Sethi rd imm) range =
      plain_sets rd (imm * 1024) (Exactly (imm * 1024)) range.0
      (let low = range.1 in record { word = omega arith; may = (let e : imm * 1024 ≡ imm * 1024 % 2 ^ 32 = omega arith in e) })
  act_follows eight delay (Branch annul condition disp) range =
      branch_act (directions test_of p annul condition (target_of p.pc disp)) annul (condition == 8) (holds_of condition (flags_in m)) (target_of m.pc disp)
  act_follows eight delay (FloatBranch annul condition disp) range =
      branch_act (directions untested p annul condition (target_of p.pc disp)) annul (condition == 8) (float_taken condition free.taken) (target_of m.pc disp)
  act_follows eight delay (Alu o cc' rd rs1 second) range = alu_follows o cc' rd rs1 second range.0 range.1 range.2
  act_follows eight delay (Tagged o rd rs1 second) range =
      freely true rd (tagged_result o (register_of m rs1) (operand_of m second)) (applied (tagged_operation o) p.depth rs1 second) range.0
      (gives_applied (tagged_operation o) false rs1 second (tagged_result o (register_of m rs1) (operand_of m second)) range.1 range.2
      (tagged_word o (register_of m rs1) (operand_of m second)) (tagged_is o (register_of m rs1) (operand_of m second)))
  act_follows eight delay (MulStep rd rs1 second) range = freely true rd free.first Anything range.0 (record { word = within.first; may = within.first })
  act_follows eight delay (Shift o rd rs1 second) range =
      plain_sets rd (shift_result o (register_of m rs1) (operand_of m second)) (applied (shift_operation o) p.depth rs1 second) range.0
      (gives_applied (shift_operation o) false rs1 second (shift_result o (register_of m rs1) (operand_of m second)) range.1 range.2
      (shift_word o (register_of m rs1) (operand_of m second) (register_word m rs1 machine)) (shift_is o (register_of m rs1) (operand_of m second)))
  act_follows eight delay (ReadY rd) range = plain_sets rd free.first Anything range (record { word = within.first; may = within.first })
  act_follows eight delay (WriteY rs1 second) range = resting
  act_follows eight delay (FloatOp these) range = resting
  act_follows eight delay (FloatCmp these) range = resting
  act_follows eight delay (Jmpl rd rs1 second) range =
      either (is_next p.next p.pc) (jump_to p delay rd rs1 second) open_instruction _ (jump_follows delay rd rs1 second range.0) tt
  act_follows eight delay (Flush rs1 second) range = resting
  act_follows eight delay (Save rd rs1 second) range = save_follows rd rs1 second range.0 range.1 range.2
  act_follows eight delay (Restore rd rs1 second) range = restore_follows rd rs1 second range.0 range.1 range.2
  act_follows eight delay (Ticc condition rs1 second) range = ticc_follows condition
  act_follows eight delay (Load kind rd rs1 second) range = load_follows kind rd rs1 second range.0 range.1 range.2
  act_follows eight delay (Store kind rd rs1 second) range = store_follows kind rd (address_in m rs1 second)
  act_follows eight delay (Atomic swap rd rs1 second) range = atomic_follows swap rd (address_in m rs1 second) range.0
  act_follows eight delay (FloatMem kind rd rs1 second) range = float_follows kind (address_in m rs1 second)
  act_follows eight delay (UnmodelledWord these) range = tt
  act_follows eight delay (Unknown these) range = tt
  act_follows eight delay (Multiply cc' rd rs1 second) range =
      either eight (plain (sets p.depth rd (applied op.Mul p.depth rs1 second) (where_set cc' flags.Unknown))) open_instruction _
      (freely cc' rd (product_of (register_of m rs1) (operand_of m second)) (applied op.Mul p.depth rs1 second) range.0
      (gives_applied op.Mul false rs1 second (product_of (register_of m rs1) (operand_of m second)) range.1 range.2 (omega arith) refl)) tt
  act_follows eight delay (Divide cc' rd rs1 second) range =
      either eight (plain (sets p.depth rd Anything (where_set cc' flags.Unknown))) open_instruction _
      (freely cc' rd free.first Anything range.0 (record { word = within.first; may = within.first })) tt

  -- where the act of an instruction is a step and a way, the machine follows by the step
  pub step_follows : (eight : Bool) (delay : Option Instr) (i : Instr) (step : Step) (way : Way) (after : Machine) (annulled : Bool) → InRange i
      → act_of eight p delay i ≡ Acts step way → effect_of image free m i ≡ Done after annulled → FollowsIn image step cwp m after
  step_follows eight delay i step way after annulled range same does =
      subst (λ (e : Effect). StepFollows step e) does (subst (λ (act : Act). ActFollows act (effect_of image free m i)) same (act_follows eight delay i range))
