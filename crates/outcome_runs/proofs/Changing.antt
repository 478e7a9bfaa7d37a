-- The cells of counters change as the program points of contexts say.
use Rattle.std.proofs.Common.{◌≡◌, ◌≢◌, ◌⊎◌, ℕ, zero, suc, ◌+◌, ◌%◌, ◌^◌, ◌<◌, ◌≤◌, Bool, true, false, ℤ, List, [], ◌∷◌, length, Option, Some, None, Contains, inl, inr, refl, sym, ap, subst, ◌∙◌, arith}
use Rattle.std.specs.Prelude.{◌==◌, ◌&&◌, ◌||◌, ◌+ℤ◌, is_some, map, neg_ℤ, not, slice_get, if◌then◌else◌}
use Rattle.std.specs.Int.{w32, cast_signed}
use Rattle.std.specs.Option.{option_and_then}
use Rattle.std.proofs.lemmas.Bool.{and_parts, eq-eqb, eqb-true, false≢true}
use Rattle.std.proofs.lemmas.Bool.Decides.{nat_tests}
use Rattle.std.proofs.lemmas.Int.{ints}
use Rattle.abs_state.specs.State.{State, cell_at}
use Rattle.abs_state.specs.declared.flags.Right.{Right}
use Rattle.abs_state.specs.declared.flags.Right.TheVariants.{Cell, Word}
use Rattle.abs_state.specs.declared.key.GapKind.TheVariants as gap
use Rattle.abs_state.specs.declared.key.Key.TheVariants as key
use Rattle.abs_state.specs.declared.key.Next.{Next}
use Rattle.abs_state.specs.declared.key.Next.TheVariants.{At, Into, Back}
use Rattle.abs_state.specs.declared.key.Place.{Place}
use Rattle.assert_bind.specs.Binding.{never}
use Rattle.assert_bind.specs.declared.body.BoundAssertion.{BoundAssertion}
use Rattle.bt_base.specs.Graph.{is_edge}
use Rattle.call_effects.proofs.MaskLemmas.{masks_are_sets}
use Rattle.call_effects.specs.Cell.{cell_of}
use Rattle.call_effects.specs.Mask.{after_call, has_cell, union, with_cell}
use Rattle.counter_bound.specs.Change.{adds_to, changes_of, down_in, down_of, touches, up_in, up_of}
use Rattle.counter_bound.specs.declared.change.Change.{Change}
use Rattle.counter_bound.specs.declared.change.Change.TheVariants.{Add, Other}
use Rattle.counting_steps.specs.Changes.{Adds, IsAmount, IsOneWord, Leaves}
use Rattle.frame_laws.specs.Context.{Counter}
use Rattle.sparc_decode.specs.declared.instruction.AluOp.{AluOp}
use Rattle.sparc_decode.specs.declared.instruction.AluOp.TheVariants as alu
use Rattle.sparc_decode.specs.declared.instruction.Instr.{Instr}
use Rattle.sparc_decode.specs.declared.instruction.Instr.TheVariants.{Call, Unimp, Sethi, Branch, FloatBranch, Alu, Tagged, MulStep, Shift, ReadY, WriteY, FloatOp, FloatCmp, Jmpl, Flush, Save, Restore, Ticc, Load, Store, Atomic, FloatMem, Unmodelled, Unknown, Multiply, Divide}
use Rattle.sparc_decode.specs.declared.instruction.Second.{Second}
use Rattle.sparc_machine.specs.Frame.{instruction_at}
use Rattle.sparc_machine.specs.Straight.{code_instruction}
use Rattle.stack_laws.specs.Standing.{summary_in}
use Rattle.transfer_acts.specs.Act.{act_at, act_of, act_there, behind}
use Rattle.transfer_acts.specs.Operand.{operand, operation}
use Rattle.transfer_acts.specs.Reading.{is_stub}
use Rattle.transfer_acts.specs.Step.{operated}
use Rattle.transfer_rules.specs.Closed.{IsAllowed, IsTaken}
use Rattle.transfer_rules.specs.Fact.{state_in}
use Rattle.transfer_rules.specs.Give.{Facts, is_written, mask_of}
use Rattle.transfer_rules.specs.declared.act.Act.{Act}
use Rattle.transfer_rules.specs.declared.act.Act.TheVariants.{Dead, Open, Acts}
use Rattle.transfer_rules.specs.declared.act.Way.{Way}
use Rattle.transfer_rules.specs.declared.act.Way.TheVariants.{Onward}
use Rattle.transfer_rules.specs.declared.fact.Fact.{Fact}
use Rattle.transfer_rules.specs.declared.fact.Fact.TheVariants as fact
use Rattle.transfer_rules.specs.declared.step.Source.TheVariants.{Applied}
use Rattle.transfer_rules.specs.declared.step.Step.{Step}
use Rattle.value_lattice.proofs.LeastLemmas.{ends_exist, high_fits, low_fits, rank_of-number_at}
use Rattle.value_lattice.specs.Ends.{AreEnds, high_end, low_end}
use Rattle.value_lattice.specs.Order.{number_at, place_of, rank_of}
use Rattle.value_lattice.specs.Value.{IsValue, MayHave, one_in, one_of}
use Rattle.value_lattice.specs.declared.value.Value.{Value}
use Rattle.value_lattice.specs.declared.value.Value.TheVariants.{Words, Range, Ret}
use Rattle.value_ops.specs.declared.op.Op.{Op}
use Rattle.value_ops.specs.declared.op.Op.TheVariants as op
use Rattle.context_outcomes.specs.Counting.{added_amount, added_by, added_to, added_word, amount_of, change_at, change_or, ends_fit, fits, lent_by, word_of, written_at, written_by}
use Rattle.context_outcomes.specs.Setting.{Setting, facts_in, program_of}
use Rattle.outcome_runs.proofs.Amounts.{AreApart, added_is, between_fits, end_fits, taken_is}

some_same : {X : Type 0} {x y : X} → Some x ≡ Some y → x ≡ y
some_same e = cc

none_some : {X : Type 0} {x : X} → None ≡ Some x → ⊥
none_some e = cc

-- a number is added to the cell that an instruction reads and writes
pub record IsAddition (s : State) (depth : ℕ) (instruction : Option Instr) (change : Change) : Type 0 where
  pub op : AluOp
  pub coded : Bool
  pub rd : ℕ
  pub rs1 : ℕ
  pub second : Second
  pub is : instruction ≡ Some (Alu op coded rd rs1 second)
  pub one : cell_of depth rs1 ≡ cell_of depth rd
  pub some : (cell_of depth rd == 0) ≡ false
  pub word : ℕ
  pub of : word_of s (operand depth second) ≡ Some word
  pub amount : ℤ
  pub by : amount_of op (cast_signed w32 word) ≡ Some amount
  pub small : fits amount ≡ true
  pub low : fits (number_at (low_end (cell_at s (cell_of depth rd))) +ℤ amount) ≡ true
  pub high : fits (number_at (high_end (cell_at s (cell_of depth rd))) +ℤ amount) ≡ true
  pub adds : change ≡ Add (cell_of depth rd) amount

pub record IsAmountOf (s : State) (cell : ℕ) (o : Option ℤ) (change : Change) : Type 0 where
  pub amount : ℤ
  pub by : o ≡ Some amount
  pub small : fits amount ≡ true
  pub low : fits (number_at (low_end (cell_at s cell)) +ℤ amount) ≡ true
  pub high : fits (number_at (high_end (cell_at s cell)) +ℤ amount) ≡ true
  pub adds : change ≡ Add cell amount

amount_added : (s : State) (cell : ℕ) (o : Option ℤ) (change : Change) → added_amount s cell o ≡ Some change → IsAmountOf s cell o change
amount_added s cell None change is = absurd (none_some is)
amount_added s cell (Some k) change is = cases (fits k && ends_fit (cell_at s cell) k) refl is where
  cases : (b : Bool) → (fits k && ends_fit (cell_at s cell) k) ≡ b → (if b then Some (Add cell k) else None) ≡ Some change → IsAmountOf s cell (Some k) change
  cases true e same =
      let first = and_parts (fits k) (ends_fit (cell_at s cell) k) e in
      let ends = and_parts (fits (number_at (low_end (cell_at s cell)) +ℤ k)) (fits (number_at (high_end (cell_at s cell)) +ℤ k)) first.1 in
      record { amount = k; by = refl; small = first.0; low = ends.0; high = ends.1; adds = sym (some_same same) }
  cases false e same = absurd (none_some same)

-- where the first cell is another than the one that is written, or cell 0, nothing is added
alu_added : (s : State) (depth : ℕ) (op : AluOp) (coded : Bool) (rd rs1 : ℕ) (second : Second) (change : Change)
    → added_by s depth (Some (Alu op coded rd rs1 second)) ≡ Some change → IsAddition s depth (Some (Alu op coded rd rs1 second)) change
alu_added s depth op coded rd rs1 second change is = cases ((cell_of depth rd == cell_of depth rs1) && not (cell_of depth rd == 0)) refl is where
  not_false : (b : Bool) → not b ≡ true → b ≡ false
  not_false true e = absurd (false≢true e)
  not_false false e = refl

  word_added : (o : Option ℕ) → word_of s (operand depth second) ≡ o → cell_of depth rs1 ≡ cell_of depth rd → (cell_of depth rd == 0) ≡ false
      → added_word s op (cell_of depth rd) o ≡ Some change → IsAddition s depth (Some (Alu op coded rd rs1 second)) change
  word_added None of one some same = absurd (none_some same)
  word_added (Some w) of one some same =
      let a = amount_added s (cell_of depth rd) (amount_of op (cast_signed w32 w)) change same in
      record {
        op = op;
        coded = coded;
        rd = rd;
        rs1 = rs1;
        second = second;
        is = refl;
        one = one;
        some = some;
        word = w;
        of = of;
        amount = a.amount;
        by = a.by;
        small = a.small;
        low = a.low;
        high = a.high;
        adds = a.adds;
      }

  cases : (b : Bool) → ((cell_of depth rd == cell_of depth rs1) && not (cell_of depth rd == 0)) ≡ b
      → (if b then added_word s op (cell_of depth rd) (word_of s (operand depth second)) else None) ≡ Some change
      → IsAddition s depth (Some (Alu op coded rd rs1 second)) change
  cases true e same =
      let parts = and_parts (cell_of depth rd == cell_of depth rs1) (not (cell_of depth rd == 0)) e in
      word_added (word_of s (operand depth second)) refl (sym (eqb-true (cell_of depth rd) (cell_of depth rs1) parts.0))
      (not_false (cell_of depth rd == 0) parts.1) same
  cases false e same = absurd (none_some same)

by_added : (s : State) (depth : ℕ) (instruction : Option Instr) (change : Change) → added_by s depth instruction ≡ Some change
    → IsAddition s depth instruction change
by_added s depth None change is = absurd (none_some is)
by_added s depth (Some (Alu op coded rd rs1 second)) change is = alu_added s depth op coded rd rs1 second change is
by_added s depth (Some (Call disp)) change is = absurd (none_some is)
by_added s depth (Some (Unimp imm)) change is = absurd (none_some is)
by_added s depth (Some (Sethi rd imm)) change is = absurd (none_some is)
by_added s depth (Some (Branch annul cond disp)) change is = absurd (none_some is)
by_added s depth (Some (FloatBranch annul cond disp)) change is = absurd (none_some is)
by_added s depth (Some (Tagged o rd rs1 second)) change is = absurd (none_some is)
by_added s depth (Some (MulStep rd rs1 second)) change is = absurd (none_some is)
by_added s depth (Some (Shift o rd rs1 second)) change is = absurd (none_some is)
by_added s depth (Some (ReadY rd)) change is = absurd (none_some is)
by_added s depth (Some (WriteY rs1 second)) change is = absurd (none_some is)
by_added s depth (Some (FloatOp these)) change is = absurd (none_some is)
by_added s depth (Some (FloatCmp these)) change is = absurd (none_some is)
by_added s depth (Some (Jmpl rd rs1 second)) change is = absurd (none_some is)
by_added s depth (Some (Flush rs1 second)) change is = absurd (none_some is)
by_added s depth (Some (Save rd rs1 second)) change is = absurd (none_some is)
by_added s depth (Some (Restore rd rs1 second)) change is = absurd (none_some is)
by_added s depth (Some (Ticc cond rs1 second)) change is = absurd (none_some is)
by_added s depth (Some (Load kind rd rs1 second)) change is = absurd (none_some is)
by_added s depth (Some (Store kind rd rs1 second)) change is = absurd (none_some is)
by_added s depth (Some (Atomic swap rd rs1 second)) change is = absurd (none_some is)
by_added s depth (Some (FloatMem kind rd rs1 second)) change is = absurd (none_some is)
by_added s depth (Some (Unmodelled these)) change is = absurd (none_some is)
by_added s depth (Some (Unknown these)) change is = absurd (none_some is)
by_added s depth (Some (Multiply coded rd rs1 second)) change is = absurd (none_some is)
by_added s depth (Some (Divide coded rd rs1 second)) change is = absurd (none_some is)

pub record IsAddedTo (s : State) (depth : ℕ) (instruction : Option Instr) (next : Next) (change : Change) : Type 0 where
  pub stays : (t : ℕ) → next ≡ Into t → ⊥
  pub is : IsAddition s depth instruction change

pub to_added : (s : State) (depth : ℕ) (instruction : Option Instr) (next : Next) (change : Change) → added_to s depth instruction next ≡ Some change
    → IsAddedTo s depth instruction next change
to_added s depth instruction (At n) change is = record { stays = λ t e. cc; is = by_added s depth instruction change is }
to_added s depth instruction (Into t) change is = absurd (none_some is)
to_added s depth instruction Back change is = record { stays = λ t e. cc; is = by_added s depth instruction change is }

-- what an instruction of the arithmetic and logical unit does
module _ (image : List ℕ) (binding : List BoundAssertion) (eight : Bool) (p : Place) (step : Step) (way : Way) (op : AluOp) (coded : Bool) (rd rs1 : ℕ) (second : Second) where
  not_dead : Dead ≡ Acts step way → ⊥
  not_dead e = cc

  acts_same : (other : Step) (there : Way) → Acts other there ≡ Acts step way → other ≡ step
  acts_same other there e = cc

  not_open : Open gap.Jump ≡ Acts step way → ⊥
  not_open e = cc

  pub alu_step : code_instruction image p.pc ≡ Some (Alu op coded rd rs1 second) → act_at image binding eight p ≡ Acts step way
      → operated p.depth op coded rd rs1 second ≡ step
  alu_step is acts = by (never binding p.pc) acts where
    there : (b : Bool) → (if b then Open gap.Jump else act_of eight p (instruction_at image (behind p.pc 4)) (Alu op coded rd rs1 second)) ≡ Acts step way
        → operated p.depth op coded rd rs1 second ≡ step
    there true e = absurd (not_open e)
    there false e = acts_same (operated p.depth op coded rd rs1 second) Onward e

    by : (b : Bool) → (if b then Dead else act_there binding eight p (instruction_at image (behind p.pc 4)) (code_instruction image p.pc)) ≡ Acts step way
        → operated p.depth op coded rd rs1 second ≡ step
    by true e = absurd (not_dead e)
    by false e =
        there (is_stub binding p.pc)
        (subst (λ (o : Option Instr). act_there binding eight p (instruction_at image (behind p.pc 4)) o ≡ Acts step way) is e)

-- a value that is one word
one_word : (v : Value) (w : ℕ) → one_of v ≡ Some w → v ≡ Words (w ∷ [])
one_word (Words []) w is = absurd (none_some is)
one_word (Words (x ∷ [])) w is = ap (λ (n : ℕ). Words (n ∷ [])) (some_same is)
one_word (Words (x ∷ z ∷ rest)) w is = absurd (none_some is)
one_word (Range lo hi) w is = absurd (none_some is)
one_word Ret w is = absurd (none_some is)

is_one_word : (s : State) (r : Right) (w : ℕ) → word_of s r ≡ Some w → IsOneWord s r w
is_one_word s (Word n) w is = sym (some_same is)
is_one_word s (Cell c) w is = one_word (cell_at s c) w is

one_low : (v : Value) (w : ℕ) → v ≡ Words (w ∷ []) → IsValue v → w < 2 ^ 32
one_low v w same value = let set : IsValue (Words (w ∷ [])) = subst IsValue same value in set.fits 0 0 (omega arith)

word_low : (s : State) (r : Right) (w : ℕ) → ((c : ℕ) → IsValue (cell_at s c)) → word_of s r ≡ Some w → w < 2 ^ 32
word_low s (Word n) w values is = let same : n % 2 ^ 32 ≡ w = some_same is in omega (arith, same)
word_low s (Cell c) w values is = one_low (cell_at s c) w (one_word (cell_at s c) w is) (values c)

-- a word of a value is between its ends
pub between_ends : (v : Value) (w : ℕ) → IsValue v → w < 2 ^ 32 → MayHave v w → (low_end v ≤ place_of w) × (place_of w ≤ high_end v)
between_ends (Words words) w value low has = let ends : AreEnds (Words words) (low_end (Words words)) (high_end (Words words)) = ends_exist (Words words) value in ends.between w has.has
between_ends (Range lo hi) w value low has =
    let ends : AreEnds (Range lo hi) (low_end (Range lo hi)) (high_end (Range lo hi)) = ends_exist (Range lo hi) value in
    let first = ends.0 in
    let last = ends.1 in
    let here = has.has in
    (omega (arith, first, here.0), omega (arith, last, here.1))
between_ends Ret w value low has =
    let ends : AreEnds Ret (low_end Ret) (high_end Ret) = ends_exist Ret value in
    let first = ends.0 in
    let last = ends.1 in
    (omega (arith, first), omega (arith, last, low))

signed_place : (w : ℕ) → w < 2 ^ 32 → (w + 2 ^ 31) % 2 ^ 32 ≡ rank_of (cast_signed w32 w)
signed_place w low = grind (arith, ints, nat_tests)

-- what is added and taken is the word, by the operation
amount_is : (o : AluOp) (word : ℕ) (k : ℤ) → word < 2 ^ 32 → amount_of o (cast_signed w32 word) ≡ Some k → fits k ≡ true
    → IsAmount (operation o) word (up_of k) (down_of k)
amount_is alu.Add word k low is small =
    let same : cast_signed w32 word ≡ k = some_same is in
    subst (λ (z : ℤ). (word + down_of z) % 2 ^ 32 ≡ up_of z % 2 ^ 32) same
    (added_is word (cast_signed w32 word) low (signed_place word low) (subst (λ (z : ℤ). fits z ≡ true) (sym same) small))
amount_is alu.Sub word k low is small =
    let same : neg_ℤ (cast_signed w32 word) ≡ k = some_same is in
    subst (λ (z : ℤ). (word + up_of z) % 2 ^ 32 ≡ down_of z % 2 ^ 32) same
    (taken_is word (cast_signed w32 word) low (signed_place word low) (subst (λ (z : ℤ). fits z ≡ true) (sym same) small))
amount_is alu.And word k low is small = absurd (none_some is)
amount_is alu.Or word k low is small = absurd (none_some is)
amount_is alu.Xor word k low is small = absurd (none_some is)
amount_is alu.Andn word k low is small = absurd (none_some is)
amount_is alu.Orn word k low is small = absurd (none_some is)
amount_is alu.Xnor word k low is small = absurd (none_some is)
amount_is alu.Addx word k low is small = absurd (none_some is)
amount_is alu.Subx word k low is small = absurd (none_some is)

both_false : (a b : Bool) → (a || b) ≡ false → (a ≡ false) × (b ≡ false)
both_false true b is = absurd (false≢true (sym is))
both_false false b is = (refl, is)

module _ (S : Setting) (p : Place) (step : Step) (way : Way) (before : State) (acts : (program_of S).act p ≡ Acts step way) (values : (c : ℕ) → IsValue (cell_at before c)) (cell : ℕ) where
  abbrev Changed : Change → Type 0
  Changed change =
      Leaves (facts_in S) p step cell (up_in (Some change) cell) (down_in (Some change) cell)
      ⊎ Adds p step before cell (up_in (Some change) cell) (down_in (Some change) cell)

  -- cells that are written otherwise aren't the counter's
  other_leaves : has_cell (written_at S p) cell ≡ false → Leaves (facts_in S) p step cell 0 0
  other_leaves free =
      let parts =
      both_false (has_cell (written_by ((program_of S).act p)) cell) (has_cell (lent_by (facts_in S) ((program_of S).act p) p.next) cell)
      (sym (masks_are_sets.union (written_by ((program_of S).act p)) (lent_by (facts_in S) ((program_of S).act p) p.next) cell) ∙ free) in
      record {
        free = sym (ap (λ (a : Act). has_cell (written_by a) cell) acts) ∙ parts.0;
        call = λ t into.
            sym (ap (λ (n : Next). has_cell (lent_by (facts_in S) (Acts step way) n) cell) into)
            ∙ (sym (ap (λ (a : Act). has_cell (lent_by (facts_in S) a p.next) cell) acts) ∙ parts.1);
        same = refl;
      }

  other_changed : (touches (Other (written_at S p)) cell ≡ true → adds_to (Other (written_at S p)) cell ≡ true) → Changed (Other (written_at S p))
  other_changed only = by (has_cell (written_at S p) cell) refl where
    by : (b : Bool) → has_cell (written_at S p) cell ≡ b → Changed (Other (written_at S p))
    by true touched = absurd (false≢true (only touched))
    by false free = inl (other_leaves free)

  module _ (change : Change) (is : IsAddedTo before p.depth (code_instruction S.image p.pc) p.next change) where
    abbrev a : IsAddition before p.depth (code_instruction S.image p.pc) change
    a = is.is

    abbrev mine : ℕ
    mine = cell_of p.depth a.rd

    stepped : operated p.depth a.op a.coded a.rd a.rs1 a.second ≡ step
    stepped = alu_step S.image S.binding S.eight p step way a.op a.coded a.rd a.rs1 a.second a.is acts

    -- another cell than the one that is added to is left
    left_alone : (cell == mine) ≡ false → Leaves (facts_in S) p step cell 0 0
    left_alone apart =
        record {
          free = subst (λ (s : Step). has_cell (mask_of s) cell ≡ false) stepped (written (is_written mine));
          call = λ t into. absurd (is.stays t into);
          same = refl;
        }
      where
        none : has_cell 0 cell ≡ false
        none = cases (has_cell 0 cell) refl where
          cases : (b : Bool) → has_cell 0 cell ≡ b → b ≡ false
          cases true e = absurd (masks_are_sets.none cell e)
          cases false e = refl

        written : (b : Bool) → has_cell (if b then with_cell 0 mine else 0) cell ≡ false
        written true = masks_are_sets.with_one 0 mine cell ∙ (ap (λ (b : Bool). b || (cell == mine)) none ∙ apart)
        written false = none

    -- and it is added to exactly
    added_here : cell ≡ mine → Adds p step before cell (up_of a.amount) (down_of a.amount)
    added_here same =
        let low = word_low before (operand p.depth a.second) a.word values a.of in
        record {
          stays = is.stays;
          op = operation a.op;
          right = operand p.depth a.second;
          word = a.word;
          first =
              sym (ap (λ (s : Step). s.first) stepped)
              ∙ (ap (λ (c : ℕ). Some (record { cell = mine; source = Applied (operation a.op) (Cell c) (operand p.depth a.second) })) a.one
              ∙ ap (λ (c : ℕ). Some (record { cell = c; source = Applied (operation a.op) (Cell c) (operand p.depth a.second) })) (sym same));
          second = sym (ap (λ (s : Step). s.second) stepped);
          one = is_one_word before (operand p.depth a.second) a.word a.of;
          amount = amount_is a.op a.word a.amount low a.by a.small;
          some = λ zero_cell. false≢true (sym a.some ∙ eq-eqb mine 0 (sym same ∙ zero_cell));
          fits = λ w small has.
              let v : Value = cell_at before mine in
              let here : MayHave v w = subst (λ (c : ℕ). MayHave (cell_at before c) w) same has in
              let ends = between_ends v w (values mine) small here in
              between_fits (low_end v) (high_end v) (place_of w) a.amount ends.0 ends.1
              (end_fits (low_end v) a.amount (low_fits v (values mine)) (rank_of-number_at (low_end v) (low_fits v (values mine))) a.low)
              (end_fits (high_end v) a.amount (high_fits v (values mine)) (rank_of-number_at (high_end v) (high_fits v (values mine))) a.high);
        }

    added_changed : Changed change
    added_changed = subst Changed (sym a.adds) (by (cell == mine) refl) where
      by : (b : Bool) → (cell == mine) ≡ b
          → Leaves (facts_in S) p step cell (if cell == mine then up_of a.amount else 0) (if cell == mine then down_of a.amount else 0)
          ⊎ Adds p step before cell (if cell == mine then up_of a.amount else 0) (if cell == mine then down_of a.amount else 0)
      by true e =
          inr (subst (λ (b : Bool). Adds p step before cell (if b then up_of a.amount else 0) (if b then down_of a.amount else 0)) (sym e)
          (added_here (eqb-true cell mine e)))
      by false e =
          inl (subst (λ (b : Bool). Leaves (facts_in S) p step cell (if b then up_of a.amount else 0) (if b then down_of a.amount else 0)) (sym e)
          (left_alone e))

  -- a program point whose change of the counter's cell is an addition leaves it or adds to it
  pub changed : (touches (change_at S p (Some before)) cell ≡ true → adds_to (change_at S p (Some before)) cell ≡ true) → Changed (change_at S p (Some before))
  changed = by (added_to before p.depth (code_instruction S.image p.pc) p.next) refl where
    by : (o : Option Change) → added_to before p.depth (code_instruction S.image p.pc) p.next ≡ o
        → (touches (change_or (written_at S p) o) cell ≡ true → adds_to (change_or (written_at S p) o) cell ≡ true) → Changed (change_or (written_at S p) o)
    by None is only = other_changed only
    by (Some change) is only = added_changed change (to_added before p.depth (code_instruction S.image p.pc) p.next change is)
