-- The untaken direction of an annulling branch.
use Rattle.std.proofs.Common.{◌≡◌, ◌≢◌, ℕ, ◌+◌, ◌%◌, ◌^◌, Bool, true, false, List, Option, Some, None, if◌then◌else◌, refl, subst, sym, arith, eqb}
use Rattle.abs_state.specs.declared.key.Place.{Place}
use Rattle.assert_bind.specs.Binding.{never}
use Rattle.assert_bind.specs.declared.body.BoundAssertion.{BoundAssertion}
use Rattle.sparc_decode.specs.declared.instruction.Instr.{Instr}
use Rattle.sparc_decode.specs.declared.instruction.Instr.TheVariants.{Call, Unimp, Sethi, Branch, FloatBranch, Alu, Tagged, MulStep, Shift, ReadY}
use Rattle.sparc_decode.specs.declared.instruction.Instr.TheVariants.{WriteY, FloatOp, FloatCmp, Jmpl, Flush, Save, Restore, Ticc, Load, Store}
use Rattle.sparc_decode.specs.declared.instruction.Instr.TheVariants.{Atomic, FloatMem, Unmodelled, Unknown, Multiply, Divide}
use Rattle.sparc_machine.specs.Frame.{instruction_at}
use Rattle.sparc_machine.specs.Straight.{code_instruction}
use Rattle.transfer_acts.specs.Act.{act_of, act_there, behind, is_next, open_instruction, test_of, untaken, untested}
use Rattle.transfer_acts.specs.Reading.{is_stub}
use Rattle.transfer_rules.specs.declared.act.Act.{Act}
use Rattle.transfer_rules.specs.declared.act.Act.TheVariants.{Dead, Open, Acts}
use Rattle.transfer_rules.specs.declared.act.Exit.{Exit}
use Rattle.transfer_rules.specs.declared.act.Test.{Test}
use Rattle.transfer_rules.specs.declared.act.Way.TheVariants.{Onward, Forks, CallsTo, JumpsTo, ReturnsBy}
use Rattle.place_laws.specs.Untaken.{PassesDelay, UntakenPassDelays, is_annulling}

abbrev SecondPasses : Place → Option Exit → Type 0
SecondPasses p None = Unit {0}
SecondPasses p (Some exit) = PassesDelay p exit

-- the second direction of an act, if it has one, passes the delay instruction over
abbrev ActPasses : Place → Act → Type 0
ActPasses p Dead = Unit {0}
ActPasses p (Open kind) = Unit {0}
ActPasses p (Acts step Onward) = Unit {0}
ActPasses p (Acts step (Forks first second)) = SecondPasses p second
ActPasses p (Acts step (CallsTo aim)) = Unit {0}
ActPasses p (Acts step (JumpsTo aim)) = Unit {0}
ActPasses p (Acts step (ReturnsBy cell)) = Unit {0}

apart : (a : ℕ) → (a + 8) % 2 ^ 32 ≢ (a + 4) % 2 ^ 32
apart a same = omega arith

either : (b : Bool) (p : Place) (x y : Act) → ActPasses p x → ActPasses p y → ActPasses p (if b then x else y)
either true p x y h k = h
either false p x y h k = k

untaken_passes : (p : Place) (test : Test) (cond : ℕ) → SecondPasses p (if eqb cond 8 then None else Some (untaken p true test))
untaken_passes p test cond = by (eqb cond 8) where
  by : (b : Bool) → SecondPasses p (if b then None else Some (untaken p true test))
  by true = tt
  by false = record { past = refl; never = apart p.pc }

-- each branch with the annul bit is so
instruction_passes : (eight : Bool) (p : Place) (delay : Option Instr) (i : Instr) → is_annulling i ≡ true → ActPasses p (act_of eight p delay i)
instruction_passes eight p delay (Branch true cond disp) is = either (is_next p.next p.pc) p _ open_instruction (untaken_passes p (test_of cond false) cond) tt
instruction_passes eight p delay (FloatBranch true cond disp) is =
    either (is_next p.next p.pc) p _ open_instruction (untaken_passes p (untested cond false) cond) tt
instruction_passes eight p delay (Branch false cond disp) is = absurd (cc)
instruction_passes eight p delay (FloatBranch false cond disp) is = absurd (cc)
instruction_passes eight p delay (Call disp) is = absurd (cc)
instruction_passes eight p delay (Unimp imm) is = absurd (cc)
instruction_passes eight p delay (Sethi rd imm) is = absurd (cc)
instruction_passes eight p delay (Alu op code rd rs1 second) is = absurd (cc)
instruction_passes eight p delay (Tagged op rd rs1 second) is = absurd (cc)
instruction_passes eight p delay (MulStep rd rs1 second) is = absurd (cc)
instruction_passes eight p delay (Shift op rd rs1 second) is = absurd (cc)
instruction_passes eight p delay (ReadY rd) is = absurd (cc)
instruction_passes eight p delay (WriteY rs1 second) is = absurd (cc)
instruction_passes eight p delay (FloatOp these) is = absurd (cc)
instruction_passes eight p delay (FloatCmp these) is = absurd (cc)
instruction_passes eight p delay (Jmpl rd rs1 second) is = absurd (cc)
instruction_passes eight p delay (Flush rs1 second) is = absurd (cc)
instruction_passes eight p delay (Save rd rs1 second) is = absurd (cc)
instruction_passes eight p delay (Restore rd rs1 second) is = absurd (cc)
instruction_passes eight p delay (Ticc cond rs1 second) is = absurd (cc)
instruction_passes eight p delay (Load kind rd rs1 second) is = absurd (cc)
instruction_passes eight p delay (Store kind rd rs1 second) is = absurd (cc)
instruction_passes eight p delay (Atomic swap rd rs1 second) is = absurd (cc)
instruction_passes eight p delay (FloatMem kind rd rs1 second) is = absurd (cc)
instruction_passes eight p delay (Unmodelled these) is = absurd (cc)
instruction_passes eight p delay (Unknown these) is = absurd (cc)
instruction_passes eight p delay (Multiply code rd rs1 second) is = absurd (cc)
instruction_passes eight p delay (Divide code rd rs1 second) is = absurd (cc)

there_passes : (list : List BoundAssertion) (eight : Bool) (p : Place) (delay here : Option Instr) (i : Instr) → here ≡ Some i → is_annulling i ≡ true
    → ActPasses p (act_there list eight p delay here)
there_passes list eight p delay None i same is = tt
there_passes list eight p delay (Some j) i same is =
    either (is_stub list p.pc) p _ _ tt (instruction_passes eight p delay j (let e : j ≡ i = cc in subst (λ (k : Instr). is_annulling k ≡ true) (sym e) is))

pub untaken_pass : UntakenPassDelays
untaken_pass image list eight p i step first exit at is acts =
    subst (ActPasses p) acts
    (either (never list p.pc) p Dead (act_there list eight p (instruction_at image (behind p.pc 4)) (code_instruction image p.pc)) tt
    (there_passes list eight p (instruction_at image (behind p.pc 4)) (code_instruction image p.pc) i at is))
