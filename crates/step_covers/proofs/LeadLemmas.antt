-- Each instruction goes on as the way of its act says.
use Rattle.std.proofs.Common.{◌≡◌, ℕ, ℤ, ◌+◌, ◌*◌, ◌%◌, ◌^◌, ◌<◌, inl, inr, ◌&&◌, ◌||◌, Bool, true, false, List, Option, Some, None, refl, sym, ap}
use Rattle.std.proofs.Common.{subst, ◌∙◌, arith}
use Rattle.std.specs.Prelude.{◌==◌, if◌then◌else◌}
use Rattle.std.proofs.lemmas.Bool.{false≢true}
use Rattle.std.proofs.lemmas.Bool.Decides.{eqb_tells}
use Rattle.abs_state.specs.declared.key.Place.{Place}
use Rattle.call_effects.proofs.CellLemmas.{cells_tell_registers_apart}
use Rattle.call_effects.specs.Cell.{cell_of}
use Rattle.cell_places.proofs.PlaceLemmas.{registers_hold_contents}
use Rattle.cell_places.specs.Place.{content_of, IsAtDepth}
use Rattle.sparc_decode.specs.Instr.{InRange, IsOperand}
use Rattle.sparc_decode.specs.declared.instruction.Instr.{Instr}
use Rattle.sparc_decode.specs.declared.instruction.Instr.TheVariants.{Call, Unimp, Sethi, Branch, FloatBranch, Alu, Tagged, MulStep, Shift, ReadY}
use Rattle.sparc_decode.specs.declared.instruction.Instr.TheVariants.{WriteY, FloatOp, FloatCmp, Jmpl, Flush, Save, Restore, Ticc, Load, Store}
use Rattle.sparc_decode.specs.declared.instruction.Instr.TheVariants.{Atomic, FloatMem, Unmodelled as UnmodelledWord, Unknown, Multiply, Divide}
use Rattle.sparc_decode.specs.declared.instruction.LoadKind.{LoadKind}
use Rattle.sparc_decode.specs.declared.instruction.LoadKind.TheVariants.{Ld, Ldub, Lduh, Ldd, Ldsb, Ldsh}
use Rattle.sparc_decode.specs.declared.instruction.Second.{Second}
use Rattle.sparc_decode.specs.declared.instruction.Second.TheVariants.{Reg, Imm}
use Rattle.sparc_machine.specs.Effect.{flags_in, float_taken, target_of, address_in, is_odd_double_load, is_odd_double_store}
use Rattle.sparc_machine.specs.Frame.{instruction_at, is_return, lets_call}
use Rattle.sparc_machine.specs.Machine.{IsMachine, register_of, operand_of}
use Rattle.sparc_machine.specs.declared.machine.Machine.{Machine}
use Rattle.sparc_runs.specs.Going.{StandsAt, Leads, BranchLeads, Goes, LeadsBack, back_by}
use Rattle.sparc_runs.specs.Running.{returns}
use Rattle.step_covers.proofs.FollowLemmas.{register_is, operand_is}
use Rattle.step_covers.specs.Does.{AimsAt, Jumps, ExitLeads, WayLeads}
use Rattle.step_covers.specs.Says.{IsTaken}
use Rattle.transfer_acts.specs.Act.{act_of, behind, is_next, call_to, calling, jump_to, is_save, linked, open_instruction, plain, branch, directions}
use Rattle.transfer_acts.specs.Act.{test_of, untested, taken, untaken, sum_of}
use Rattle.transfer_acts.specs.Reading.{is_skip}
use Rattle.transfer_acts.specs.Step.{nothing, read}
use Rattle.transfer_rules.specs.declared.act.Act.{Act}
use Rattle.transfer_rules.specs.declared.act.Act.TheVariants.{Dead, Open, Acts}
use Rattle.transfer_rules.specs.declared.act.Aim.{Aim}
use Rattle.transfer_rules.specs.declared.act.Aim.TheVariants.{Fixed}
use Rattle.transfer_rules.specs.declared.act.Candidates.{Candidates}
use Rattle.transfer_rules.specs.declared.act.Candidates.TheVariants.{Functions, Labels}
use Rattle.transfer_rules.specs.declared.act.Exit.{Exit}
use Rattle.transfer_rules.specs.declared.act.Test.{Test}
use Rattle.transfer_rules.specs.declared.act.Test.TheVariants.{Always, When}
use Rattle.transfer_rules.specs.declared.act.Way.{Way}
use Rattle.transfer_rules.specs.declared.step.Step.{Step}
use Rattle.transfer_rules.specs.declared.act.Way.TheVariants.{CallsTo, JumpsTo, ReturnsBy}
use Rattle.word_ops.specs.Condition.{holds_of}
use Rattle.word_ops.specs.declared.arithmetic.Flags.{Flags}

module _ (image : List ℕ) (cwp : ℕ) (p : Place) (m next : Machine) (machine : IsMachine m) (at : IsAtDepth cwp p.depth m) (pc : m.pc ≡ p.pc)
    (aligned : (rd rs1 : ℕ) (second : Second) → instruction_at image m.pc ≡ Some (Jmpl rd rs1 second) → address_in m rs1 second % 4 ≡ 0) where
  -- the machine goes on as an act says, if it says anything
  abbrev pub ActLeads : Act → Type 0
  ActLeads Dead = Unit {0}
  ActLeads (Open kind) = Unit {0}
  ActLeads (Acts step way) = WayLeads image way (content_of m cwp) (flags_in m) m next

  either : (b : Bool) (x y : Act) → ActLeads x → ActLeads y → ActLeads (if b then x else y)
  either true x y h k = h
  either false x y h k = k

  -- directions of a branch: a test that holds, where the branch is taken or isn't
  abbrev Holds : (ℕ → Bool → Test) → ℕ → Bool → Type 0
  Holds test condition truth = IsTaken (test condition truth) (flags_in m)

  abbrev First : (ℕ → Bool → Test) → Bool → ℕ → ℕ → Type 0
  First test annul condition target = ExitLeads (if condition == 0 then None else Some (taken p annul condition target (test condition true))) (flags_in m) next

  abbrev Other : (ℕ → Bool → Test) → Bool → ℕ → Type 0
  Other test annul condition = ExitLeads (if condition == 8 then None else Some (untaken p annul (test condition false))) (flags_in m) next

  some_exit : (b : Bool) (exit : Exit) → b ≡ false → ExitLeads (Some exit) (flags_in m) next → ExitLeads (if b then None else Some exit) (flags_in m) next
  some_exit true exit is h = absurd (false≢true (sym is))
  some_exit false exit is h = h

  taken_leads : (annul : Bool) (condition target : ℕ) (test : Test) → BranchLeads m annul (condition == 8) true target next → IsTaken test (flags_in m)
      → ExitLeads (Some (taken p annul condition target test)) (flags_in m) next
  taken_leads annul condition target test leads holds = by annul (condition == 8) leads where
    by : (a always : Bool) → BranchLeads m a always true target next
        → ExitLeads (Some (if a && always then record { pc = target; npc = behind target 4; test = test } else record
        { pc = behind p.pc 4; npc = target; test = test }))
        (flags_in m) next
    by true true h = (h.to, holds)
    by true false h =
        (record { this = h.to.this ∙ h.order ∙ ap (λ (x : ℕ). (x + 4) % 2 ^ 32) pc; after = h.to.after }, holds)
    by false always h = (record { this = h.to.this ∙ h.order ∙ ap (λ (x : ℕ). (x + 4) % 2 ^ 32) pc; after = h.to.after }, holds)

  untaken_leads : (annul : Bool) (condition target : ℕ) (test : Test) → BranchLeads m annul (condition == 8) false target next → IsTaken test (flags_in m)
      → ExitLeads (Some (untaken p annul test)) (flags_in m) next
  untaken_leads true condition target test leads holds =
      (record { this = leads.to.this ∙ ap (λ (x : ℕ). (x + 8) % 2 ^ 32) pc; after = leads.to.after ∙ ap (λ (x : ℕ). (x + 12) % 2 ^ 32) pc }, holds)
  untaken_leads false condition target test leads holds =
      let order : m.npc ≡ (m.pc + 4) % 2 ^ 32 = leads.order in
      let eight : (m.npc + 4) % 2 ^ 32 ≡ (m.pc + 8) % 2 ^ 32 = omega arith in (
        record {
          this = leads.to.this ∙ order ∙ ap (λ (x : ℕ). (x + 4) % 2 ^ 32) pc;
          after = leads.to.after ∙ eight ∙ ap (λ (x : ℕ). (x + 8) % 2 ^ 32) pc;
        },
        holds,
      )

  -- a branch that is or isn't taken, as its test says
  fork_leads : (test : ℕ → Bool → Test) (annul is_taken : Bool) (condition target : ℕ) → (is_taken ≡ true → (condition == 0) ≡ false)
      → (is_taken ≡ false → (condition == 8) ≡ false) → Holds test condition is_taken → BranchLeads m annul (condition == 8) is_taken target next
      → ActLeads (Acts (nothing p.depth) (directions test p annul condition target))
  fork_leads test annul true condition target some other holds leads =
      inl (some_exit (condition == 0) (taken p annul condition target (test condition true)) (some refl)
      (taken_leads annul condition target (test condition true) leads holds))
  fork_leads test annul false condition target some other holds leads =
      inr (some_exit (condition == 8) (untaken p annul (test condition false)) (other refl)
      (untaken_leads annul condition target (test condition false) leads holds))

  -- a condition that is tested
  tested_holds : (condition : ℕ) (truth : Bool) → condition < 16 → holds_of condition (flags_in m) ≡ truth → Holds test_of condition truth
  tested_holds condition truth few is = by ((condition == 8) || (condition == 0)) where
    by : (b : Bool) → IsTaken (if b then Always else When condition truth) (flags_in m)
    by true = tt
    by false = (few, is)

  never_zero : (condition : ℕ) (f : Flags) → holds_of condition f ≡ true → (condition == 0) ≡ false
  never_zero condition f is = elim (eqb_tells condition 0) [
    | inl none ↦ absurd (false≢true (sym (ap (λ (c : ℕ). holds_of c f) none.1) ∙ is))
    | inr some ↦ some.0
  ]

  always_eight : (condition : ℕ) (f : Flags) → holds_of condition f ≡ false → (condition == 8) ≡ false
  always_eight condition f is = elim (eqb_tells condition 8) [
    | inl all ↦ absurd (false≢true (sym is ∙ ap (λ (c : ℕ). holds_of c f) all.1))
    | inr other ↦ other.0
  ]

  branch_leads : (annul : Bool) (condition : ℕ) (disp : ℤ) → condition < 16
      → BranchLeads m annul (condition == 8) (holds_of condition (flags_in m)) (target_of m.pc disp) next → ActLeads (branch test_of p annul condition disp)
  branch_leads annul condition disp few leads =
      either (is_next p.next p.pc) (Acts (nothing p.depth) (directions test_of p annul condition (target_of p.pc disp))) open_instruction
      (fork_leads test_of annul (holds_of condition (flags_in m)) condition (target_of p.pc disp) (never_zero condition (flags_in m))
      (always_eight condition (flags_in m))
      (tested_holds condition (holds_of condition (flags_in m)) few refl)
      (subst (λ (x : ℕ). BranchLeads m annul (condition == 8) (holds_of condition (flags_in m)) (target_of x disp) next) pc leads)) tt

  float_leads : (annul free : Bool) (condition : ℕ) (disp : ℤ)
      → BranchLeads m annul (condition == 8) (float_taken condition free) (target_of m.pc disp) next → ActLeads (branch untested p annul condition disp)
  float_leads annul free condition disp leads =
      either (is_next p.next p.pc) (Acts (nothing p.depth) (directions untested p annul condition (target_of p.pc disp))) open_instruction
      (fork_leads untested annul (float_taken condition free) condition (target_of p.pc disp) zero_apart eight_apart tt
      (subst (λ (x : ℕ). BranchLeads m annul (condition == 8) (float_taken condition free) (target_of x disp) next) pc leads)) tt
    where
      zero_apart : float_taken condition free ≡ true → (condition == 0) ≡ false
      zero_apart is = elim (eqb_tells condition 0) [
        | inl none ↦ absurd (false≢true (sym (ap (λ (c : ℕ). float_taken c free) none.1) ∙ is))
        | inr some ↦ some.0
      ]

      eight_apart : float_taken condition free ≡ false → (condition == 8) ≡ false
      eight_apart is = elim (eqb_tells condition 8) [
        | inl all ↦ absurd (false≢true (sym is ∙ ap (λ (c : ℕ). float_taken c free) all.1))
        | inr other ↦ other.0
      ]

  -- to the delay instruction, and to the target of an aim
  jumping : (aim : Aim) (target : ℕ) → AimsAt aim (content_of m cwp) target → Leads m m.npc target next → Jumps aim (content_of m cwp) m next
  jumping aim target aims leads =
      record { pc = leads.to.this ∙ leads.order; aims = subst (λ (x : ℕ). AimsAt aim (content_of m cwp) x) (sym leads.to.after) aims }

  linked_leads : (delay : Option Instr) (call jump : Aim) (target : ℕ) → AimsAt call (content_of m cwp) target → AimsAt jump (content_of m cwp) target
      → Leads m m.npc target next → ActLeads (calling p delay call jump)
  linked_leads delay call jump target one other leads =
      either (is_save delay) open_instruction (linked p 15 (if lets_call delay then CallsTo call else JumpsTo jump)) tt (by (lets_call delay)) where
        by : (b : Bool) → WayLeads image (if b then CallsTo call else JumpsTo jump) (content_of m cwp) (flags_in m) m next
        by true = jumping call target one leads
        by false = jumping jump target other leads

  sum_aims : (rs1 : ℕ) (second : Second) (candidates : Candidates) → rs1 < 32 → IsOperand second → address_in m rs1 second % 4 ≡ 0
      → AimsAt (sum_of p rs1 second candidates) (content_of m cwp) (address_in m rs1 second)
  sum_aims rs1 second candidates near range even =
      record {
        first = register_of m rs1;
        second = operand_of m second;
        is_first = register_is cwp p.depth m at machine rs1 near;
        is_second = operand_is cwp p.depth m at machine second range;
        is = omega arith;
        aligned = even;
      }

  -- a return
  back_leads : (rd rs1 : ℕ) (second : Second) → rs1 < 32 → instruction_at image m.pc ≡ Some (Jmpl rd rs1 second) → LeadsBack m (Jmpl rd rs1 second) next
      → Leads m m.npc (address_in m rs1 second) next → WayLeads image (ReturnsBy (cell_of p.depth rs1)) (content_of m cwp) (flags_in m) m next
  back_leads rd rs1 second near here back leads =
      let same : register_of m rs1 ≡ content_of m cwp (cell_of p.depth rs1) = (registers_hold_contents.read) cwp p.depth m rs1 at near in
      record {
        near = (cells_tell_registers_apart.within) p.depth rs1 near;
        pc = leads.to.this ∙ leads.order;
        back =
            back.behind
            ∙ (λ i. (same i + back_by (Jmpl rd rs1 second)) % 2 ^ 32)
            ∙ ap (λ (n : ℕ). (content_of m cwp (cell_of p.depth rs1) + n) % 2 ^ 32)
            (by second ∙ ap (λ (o : Option Instr). if is_skip o then 12 else 8) (sym here));
      }
    where
      by : (s : Second) → back_by (Jmpl rd rs1 s) ≡ (if is_skip (Some (Jmpl rd rs1 s)) then 12 else 8)
      by (Reg r) = refl
      by (Imm n) = refl

  jump_leads : (delay : Option Instr) (rd rs1 : ℕ) (second : Second) → rs1 < 32 → IsOperand second → instruction_at image m.pc ≡ Some (Jmpl rd rs1 second)
      → (returns (Jmpl rd rs1 second) ≡ true → LeadsBack m (Jmpl rd rs1 second) next) → Leads m m.npc (address_in m rs1 second) next
      → ActLeads (jump_to p delay rd rs1 second)
  jump_leads delay rd rs1 second near range here back leads =
      either (rd == 15) (calling p delay (sum_of p rs1 second Functions) (sum_of p rs1 second Labels)) _
      (linked_leads delay (sum_of p rs1 second Functions) (sum_of p rs1 second Labels) (address_in m rs1 second)
      (sum_aims rs1 second Functions near range (aligned rd rs1 second here))
      (sum_aims rs1 second Labels near range (aligned rd rs1 second here)) leads)
      (by (is_return rd rs1 second) refl)
    where
      by : (b : Bool) → is_return rd rs1 second ≡ b
          → ActLeads (if b then Acts (nothing p.depth) (ReturnsBy (cell_of p.depth rs1)) else linked p rd (JumpsTo (sum_of p rs1 second Labels)))
      by true is = back_leads rd rs1 second near here (back is) leads
      by false is = jumping (sum_of p rs1 second Labels) (address_in m rs1 second) (sum_aims rs1 second Labels near range (aligned rd rs1 second here)) leads

  read_leads : (kind : LoadKind) (rd rs1 : ℕ) (second : Second) → StandsAt m.npc ((m.npc + 4) % 2 ^ 32) next
      → ActLeads (plain (read p.depth kind rd rs1 second))
  read_leads Ld rd rs1 second h = h
  read_leads Ldub rd rs1 second h = h
  read_leads Lduh rd rs1 second h = h
  read_leads Ldd rd rs1 second h = h
  read_leads Ldsb rd rs1 second h = h
  read_leads Ldsh rd rs1 second h = h

  -- each instruction
  pub act_leads : (eight : Bool) (delay : Option Instr) (i : Instr) → InRange i → instruction_at image m.pc ≡ Some i
      → (returns i ≡ true → LeadsBack m i next) → Goes i m next → ActLeads (act_of eight p delay i)
  act_leads eight delay (Call disp) range here back goes =
      either (is_next p.next p.pc) (call_to p delay ((p.pc + disp * 4) % 2 ^ 32)) open_instruction
      (either ((p.pc + disp * 4) % 2 ^ 32 == behind p.pc 8) open_instruction _ tt
      (linked_leads delay (Fixed ((p.pc + disp * 4) % 2 ^ 32)) (Fixed ((p.pc + disp * 4) % 2 ^ 32)) ((p.pc + disp * 4) % 2 ^ 32) refl refl
      (subst (λ (x : ℕ). Leads m m.npc ((x + disp * 4) % 2 ^ 32) next) pc goes))) tt
  act_leads eight delay (Unimp imm) range here back goes = tt
  act_leads eight delay (Sethi rd imm) range here back goes = goes
  act_leads eight delay (Branch annul condition disp) range here back goes = branch_leads annul condition disp range.0 goes
  act_leads eight delay (FloatBranch annul condition disp) range here back goes = float_leads annul goes.0 condition disp goes.1
  act_leads eight delay (Alu op cc rd rs1 second) range here back goes = goes
  act_leads eight delay (Tagged op rd rs1 second) range here back goes = goes
  act_leads eight delay (MulStep rd rs1 second) range here back goes = goes
  act_leads eight delay (Shift op rd rs1 second) range here back goes = goes
  act_leads eight delay (ReadY rd) range here back goes = goes
  act_leads eight delay (WriteY rs1 second) range here back goes = goes
  act_leads eight delay (FloatOp these) range here back goes = goes
  act_leads eight delay (FloatCmp these) range here back goes = goes
  act_leads eight delay (Jmpl rd rs1 second) range here back goes =
      either (is_next p.next p.pc) (jump_to p delay rd rs1 second) open_instruction (jump_leads delay rd rs1 second range.1 range.2 here back goes) tt
  act_leads eight delay (Flush rs1 second) range here back goes = goes
  act_leads eight delay (Save rd rs1 second) range here back goes = either (p.depth == 0) _ open_instruction goes tt
  act_leads eight delay (Restore rd rs1 second) range here back goes = either (p.depth == 1) _ open_instruction goes tt
  act_leads eight delay (Ticc condition rs1 second) range here back goes = either (condition == 0) _ open_instruction goes tt
  act_leads eight delay (Load kind rd rs1 second) range here back goes =
      either (is_odd_double_load kind rd) open_instruction _ tt (read_leads kind rd rs1 second goes)
  act_leads eight delay (Store kind rd rs1 second) range here back goes = either (is_odd_double_store kind rd) open_instruction _ tt goes
  act_leads eight delay (Atomic swap rd rs1 second) range here back goes = goes
  act_leads eight delay (FloatMem kind rd rs1 second) range here back goes = goes
  act_leads eight delay (UnmodelledWord these) range here back goes = tt
  act_leads eight delay (Unknown these) range here back goes = tt
  act_leads eight delay (Multiply cc rd rs1 second) range here back goes = either eight _ open_instruction goes tt
  act_leads eight delay (Divide cc rd rs1 second) range here back goes = either eight _ open_instruction goes tt

  -- where the act of an instruction is a step and a way, the machine goes on by the way
  pub way_leads : (eight : Bool) (delay : Option Instr) (i : Instr) (step : Step) (way : Way) → InRange i → instruction_at image m.pc ≡ Some i
      → (returns i ≡ true → LeadsBack m i next) → Goes i m next → act_of eight p delay i ≡ Acts step way
      → WayLeads image way (content_of m cwp) (flags_in m) m next
  way_leads eight delay i step way range here back goes same = subst ActLeads same (act_leads eight delay i range here back goes)
