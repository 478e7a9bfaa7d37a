-- The steps of acts lead to depths below 2.
use Rattle.std.proofs.Common.{◌≡◌, ℕ, ◌<◌, Bool, true, false, List, Option, Some, None, if◌then◌else◌, subst, eqb, lit<}
use Rattle.abs_state.specs.declared.key.Place.{Place}
use Rattle.assert_bind.specs.Binding.{never}
use Rattle.assert_bind.specs.declared.body.BoundAssertion.{BoundAssertion}
use Rattle.sparc_decode.specs.declared.instruction.Instr.{Instr}
use Rattle.sparc_decode.specs.declared.instruction.Instr.TheVariants.{Call, Unimp, Sethi, Branch, FloatBranch, Alu, Tagged, MulStep, Shift, ReadY}
use Rattle.sparc_decode.specs.declared.instruction.Instr.TheVariants.{WriteY, FloatOp, FloatCmp, Jmpl, Flush, Save, Restore, Ticc, Load, Store}
use Rattle.sparc_decode.specs.declared.instruction.Instr.TheVariants.{Atomic, FloatMem, Unmodelled, Unknown, Multiply, Divide}
use Rattle.sparc_decode.specs.declared.instruction.LoadKind.{LoadKind}
use Rattle.sparc_decode.specs.declared.instruction.LoadKind.TheVariants.{Ld, Ldub, Lduh, Ldd, Ldsb, Ldsh}
use Rattle.sparc_decode.specs.declared.instruction.Second.{Second}
use Rattle.sparc_machine.specs.Effect.{is_odd_double_load, is_odd_double_store}
use Rattle.sparc_machine.specs.Frame.{instruction_at, is_return}
use Rattle.sparc_machine.specs.Straight.{code_instruction}
use Rattle.transfer_acts.specs.Act.{act_of, act_there, act_at, behind, calling, call_to, in_line, is_next, is_save, jump_to, plain, open_instruction}
use Rattle.transfer_acts.specs.Program.{IsShallowAct, ProgramsAreLawful}
use Rattle.transfer_acts.specs.Reading.{is_stub}
use Rattle.transfer_acts.specs.Step.{read}
use Rattle.transfer_rules.specs.declared.act.Act.{Act}
use Rattle.transfer_rules.specs.declared.act.Act.TheVariants.{Acts}
use Rattle.transfer_rules.specs.declared.act.Aim.{Aim}
use Rattle.transfer_rules.specs.declared.act.Way.{Way}
use Rattle.transfer_rules.specs.declared.step.Step.{Step}
use borrow.Author.Tests.{ltb-true}

either : (b : Bool) (x y : Act) → IsShallowAct x → IsShallowAct y → IsShallowAct (if b then x else y)
either true x y h k = h
either false x y h k = k

in_line_shallow : (p : Place) (act : Act) → IsShallowAct act → IsShallowAct (in_line p act)
in_line_shallow p act h = either (is_next p.next p.pc) act open_instruction h tt

calling_shallow : (p : Place) (delay : Option Instr) (call jump : Aim) → p.depth < 2 → IsShallowAct (calling p delay call jump)
calling_shallow p delay call jump h = either (is_save delay) _ _ tt h

call_shallow : (p : Place) (delay : Option Instr) (target : ℕ) → p.depth < 2 → IsShallowAct (call_to p delay target)
call_shallow p delay target h = either (eqb target (behind p.pc 8)) _ _ tt (calling_shallow p delay _ _ h)

jump_shallow : (p : Place) (delay : Option Instr) (rd rs1 : ℕ) (second : Second) → p.depth < 2 → IsShallowAct (jump_to p delay rd rs1 second)
jump_shallow p delay rd rs1 second h =
    either (eqb rd 15) _ _ (calling_shallow p delay _ _ h) (either (is_return rd rs1 second) _ _ h h)

read_shallow : (p : Place) (kind : LoadKind) (rd rs1 : ℕ) (second : Second) → p.depth < 2 → IsShallowAct (plain (read p.depth kind rd rs1 second))
read_shallow p Ld rd rs1 second h = h
read_shallow p Ldub rd rs1 second h = h
read_shallow p Lduh rd rs1 second h = h
read_shallow p Ldd rd rs1 second h = h
read_shallow p Ldsb rd rs1 second h = h
read_shallow p Ldsh rd rs1 second h = h

-- so does each instruction
pub act_shallow : (eight : Bool) (p : Place) (delay : Option Instr) (i : Instr) → p.depth < 2 → IsShallowAct (act_of eight p delay i)
act_shallow eight p delay (Call disp) h = in_line_shallow p _ (call_shallow p delay _ h)
act_shallow eight p delay (Unimp imm) h = tt
act_shallow eight p delay (Sethi rd imm) h = h
act_shallow eight p delay (Branch annul cond disp) h = in_line_shallow p _ h
act_shallow eight p delay (FloatBranch annul cond disp) h = in_line_shallow p _ h
act_shallow eight p delay (Alu op cc rd rs1 second) h = h
act_shallow eight p delay (Tagged op rd rs1 second) h = h
act_shallow eight p delay (MulStep rd rs1 second) h = h
act_shallow eight p delay (Shift op rd rs1 second) h = h
act_shallow eight p delay (ReadY rd) h = h
act_shallow eight p delay (WriteY rs1 second) h = h
act_shallow eight p delay (FloatOp these) h = h
act_shallow eight p delay (FloatCmp these) h = h
act_shallow eight p delay (Jmpl rd rs1 second) h = in_line_shallow p _ (jump_shallow p delay rd rs1 second h)
act_shallow eight p delay (Flush rs1 second) h = h
act_shallow eight p delay (Save rd rs1 second) h = either (eqb p.depth 0) _ _ (lit< tt) tt
act_shallow eight p delay (Restore rd rs1 second) h = either (eqb p.depth 1) _ _ (lit< tt) tt
act_shallow eight p delay (Ticc cond rs1 second) h = either (eqb cond 0) _ _ h tt
act_shallow eight p delay (Load kind rd rs1 second) h = either (is_odd_double_load kind rd) _ _ tt (read_shallow p kind rd rs1 second h)
act_shallow eight p delay (Store kind rd rs1 second) h = either (is_odd_double_store kind rd) _ _ tt h
act_shallow eight p delay (Atomic swap rd rs1 second) h = h
act_shallow eight p delay (FloatMem kind rd rs1 second) h = h
act_shallow eight p delay (Unmodelled these) h = tt
act_shallow eight p delay (Unknown these) h = tt
act_shallow eight p delay (Multiply cc rd rs1 second) h = either eight _ _ h tt
act_shallow eight p delay (Divide cc rd rs1 second) h = either eight _ _ h tt

there_shallow : (binding : List BoundAssertion) (eight : Bool) (p : Place) (delay i : Option Instr) → p.depth < 2
    → IsShallowAct (act_there binding eight p delay i)
there_shallow binding eight p delay None h = tt
there_shallow binding eight p delay (Some i) h = either (is_stub binding p.pc) _ _ tt (act_shallow eight p delay i h)

-- and so does each place
pub place_shallow : (image : List ℕ) (binding : List BoundAssertion) (eight : Bool) (p : Place) → p.depth < 2 → IsShallowAct (act_at image binding eight p)
place_shallow image binding eight p h =
    either (never binding p.pc) _ _ tt (there_shallow binding eight p (instruction_at image (behind p.pc 4)) (code_instruction image p.pc) h)

depth_of : (act : Act) (step : Step) (way : Way) → act ≡ Acts step way → IsShallowAct act → step.depth < 2
depth_of act step way same h = subst IsShallowAct same h

-- the steps of places at depths below 2 lead to such depths
pub programs_are_lawful : ProgramsAreLawful
programs_are_lawful image binding eight widest = record {
  depth = λ p step way shallow same.
      depth_of (act_at image binding eight p) step way same (place_shallow image binding eight p (ltb-true p.depth 2 shallow));
}
