-- Each step of the machine does what the act of its place says.
use Rattle.std.proofs.Common.{◌≡◌, ℕ, ◌%◌, Bool, true, false, List, Option, Some, None, refl, sym, ap, subst, ◌∙◌}
use Rattle.std.specs.Prelude.{◌==◌, if◌then◌else◌}
use Rattle.std.specs.Option.{option_map}
use Rattle.std.proofs.lemmas.Bool.{eqb-true}
use Rattle.abs_state.specs.declared.key.GapKind.{GapKind}
use Rattle.abs_state.specs.declared.key.GapKind.TheVariants.{Jump}
use Rattle.abs_state.specs.declared.key.Place.{Place}
use Rattle.assert_bind.specs.Binding.{never}
use Rattle.assert_bind.specs.declared.body.BoundAssertion.{BoundAssertion}
use Rattle.sparc_decode.proofs.FieldRanges.{all_in_range}
use Rattle.sparc_decode.specs.Instr.{InRange, instruction_of}
use Rattle.sparc_decode.specs.Register.{mask_of, registers_loaded}
use Rattle.sparc_decode.specs.declared.instruction.Instr.{Instr}
use Rattle.sparc_decode.specs.declared.instruction.Instr.TheVariants.{Jmpl}
use Rattle.sparc_decode.specs.declared.instruction.Second.{Second}
use Rattle.sparc_machine.specs.Effect.{Done, Trapped, effect_of, address_in, in_order, is_in_order, jumped, step_cost}
use Rattle.sparc_machine.specs.Frame.{instruction_at}
use Rattle.sparc_machine.specs.Machine.{going_to, with_register}
use Rattle.sparc_machine.specs.Straight.{code_instruction}
use Rattle.sparc_machine.specs.declared.free.Free.{Free}
use Rattle.sparc_machine.specs.declared.machine.Machine.{Machine}
use Rattle.sparc_machine.specs.declared.trap.Trap.TheVariants.{Misaligned, Unmodelled}
use Rattle.sparc_runs.proofs.Goings.{steps_go, lead_back}
use Rattle.sparc_runs.proofs.Stepping.{parts, same_instruction}
use Rattle.step_covers.proofs.ActLemmas.{step_follows}
use Rattle.step_covers.proofs.FollowLemmas.{charged_follows}
use Rattle.step_covers.proofs.LeadLemmas.{way_leads}
use Rattle.step_covers.specs.Does.{StepsDoActs}
use Rattle.step_covers.specs.Follows.{FollowsIn}
use Rattle.transfer_acts.proofs.Agreeing.{code_is_read}
use Rattle.transfer_acts.specs.Act.{act_of, act_there, act_at, behind}
use Rattle.transfer_acts.specs.Reading.{is_stub}
use Rattle.transfer_rules.specs.declared.act.Act.{Act}
use Rattle.transfer_rules.specs.declared.act.Act.TheVariants.{Dead, Open, Acts}
use Rattle.transfer_rules.specs.declared.act.Way.{Way}
use Rattle.transfer_rules.specs.declared.step.Step.{Step}

-- the instruction behind an act that is a step and a way
record IsActOf (image : List ℕ) (eight : Bool) (p : Place) (step : Step) (way : Way) : Type 0 where
  i : Instr
  code : code_instruction image p.pc ≡ Some i
  act : act_of eight p (instruction_at image (behind p.pc 4)) i ≡ Acts step way

not_dead : (b : Bool) (x : Act) (step : Step) (way : Way) → (if b then Dead else x) ≡ Acts step way → x ≡ Acts step way
not_dead true x step way same = cc
not_dead false x step way same = same

not_open : (b : Bool) (kind : GapKind) (x : Act) (step : Step) (way : Way) → (if b then Open kind else x) ≡ Acts step way → x ≡ Acts step way
not_open true kind x step way same = cc
not_open false kind x step way same = same

behind_act : (image : List ℕ) (binding : List BoundAssertion) (eight : Bool) (p : Place) (step : Step) (way : Way)
    → act_at image binding eight p ≡ Acts step way → IsActOf image eight p step way
behind_act image binding eight p step way same =
    by (code_instruction image p.pc) refl
    (not_dead (never binding p.pc) (act_there binding eight p (instruction_at image (behind p.pc 4)) (code_instruction image p.pc)) step way same)
  where
    by : (o : Option Instr) → code_instruction image p.pc ≡ o → act_there binding eight p (instruction_at image (behind p.pc 4)) o ≡ Acts step way
        → IsActOf image eight p step way
    by None code there = cc
    by (Some i) code there =
        record { i = i; code = code; act = not_open (is_stub binding p.pc) Jump (act_of eight p (instruction_at image (behind p.pc 4)) i) step way there }

-- a jump that is taken goes to a multiple of 4
jump_even : (m after : Machine) (rd target : ℕ) (annulled : Bool) → in_order m (jumped m rd target) ≡ Done after annulled → target % 4 ≡ 0
jump_even m after rd target annulled does = by (is_in_order m) (target % 4 == 0) (eqb-true (target % 4) 0) does where
  by : (b c : Bool) → (c ≡ true → target % 4 ≡ 0)
      → (if b then (if c then Done (going_to (with_register m rd m.pc) target) false else Trapped Misaligned) else Trapped Unmodelled) ≡ Done after annulled
      → target % 4 ≡ 0
  by true true even e = even refl
  by true false even e = cc
  by false c even e = cc

-- each step of the machine does what the act of its place says
pub steps_do : StepsDoActs
steps_do image cycles binding eight p step way cwp m next here same taken =
    let s = parts image cycles m next taken in
    let this : Instr = instruction_of s.this in
    let of = behind_act image binding eight p step way same in
    let code : code_instruction image m.pc ≡ Some this = ap (λ (w : Option ℕ). option_map instruction_of w) s.code in
    let at : code_instruction image m.pc ≡ Some of.i = ap (code_instruction image) here.pc ∙ of.code in
    let one : this ≡ of.i = same_instruction image m.pc s.this of.i s.code at in
    let range : InRange of.i = subst InRange one (all_in_range s.this) in
    let does : effect_of image s.free m of.i ≡ Done s.after s.annulled = sym (ap (effect_of image s.free m) one) ∙ s.does in
    let read : instruction_at image m.pc ≡ Some of.i = code_is_read image m.pc of.i at in
    let followed : FollowsIn image step cwp m s.after =
    step_follows image s.free cwp p m here.accepted here.bytes s.within here.machine here.at here.pc eight (instruction_at image (behind p.pc 4)) of.i step way
    s.after s.annulled range of.act does in
    record {
      follows =
          subst (λ (x : Machine). FollowsIn image step cwp m x) (sym s.is)
          (charged_follows image step cwp m s.after (step_cost cycles m.loaded this s.annulled) (mask_of (registers_loaded this)) followed);
      leads =
          way_leads image cwp p m next here.machine here.at here.pc (even s.free of.i s.after s.annulled does read) eight
          (instruction_at image (behind p.pc 4)) of.i
          step way range read (λ ret. lead_back image cycles m next of.i taken at ret) (steps_go image cycles m next of.i taken at) of.act;
    }
  where
    even : (free : Free) (i : Instr) (after : Machine) (annulled : Bool) → effect_of image free m i ≡ Done after annulled → instruction_at image m.pc ≡ Some i
        → (rd rs1 : ℕ) (second : Second) → instruction_at image m.pc ≡ Some (Jmpl rd rs1 second) → address_in m rs1 second % 4 ≡ 0
    even free i after annulled does read rd rs1 second is =
        let jump : i ≡ Jmpl rd rs1 second = (let both : Some i ≡ Some (Jmpl rd rs1 second) = sym read ∙ is in cc) in
        let there : effect_of image free m (Jmpl rd rs1 second) ≡ Done after annulled = sym (ap (effect_of image free m) jump) ∙ does in
        jump_even m after rd (address_in m rs1 second) annulled there
