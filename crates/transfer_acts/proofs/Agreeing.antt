-- The acts agree with how the frames of a run read the words.
use Rattle.std.proofs.Common.{◌≡◌, ℕ, ◌+◌, ◌*◌, ◌%◌, ◌^◌, Bool, true, false, List, Option, Some, None, ◌&&◌, if◌then◌else◌, refl, subst, sym, eqb}
use Rattle.std.specs.Option.{option_map}
use Rattle.abs_state.specs.declared.key.Place.{Place}
use Rattle.assert_bind.specs.Binding.{never}
use Rattle.assert_bind.specs.declared.body.BoundAssertion.{BoundAssertion}
use Rattle.bt_image.specs.Image.{word, is_code}
use Rattle.sparc_decode.specs.Instr.{instruction_of}
use Rattle.sparc_decode.specs.declared.instruction.Instr.{Instr}
use Rattle.sparc_decode.specs.declared.instruction.Instr.TheVariants.{Call, Unimp, Sethi, Branch, FloatBranch, Alu, Tagged, MulStep, Shift, ReadY}
use Rattle.sparc_decode.specs.declared.instruction.Instr.TheVariants.{WriteY, FloatOp, FloatCmp, Jmpl, Flush, Save, Restore, Ticc, Load, Store}
use Rattle.sparc_decode.specs.declared.instruction.Instr.TheVariants.{Atomic, FloatMem, Unmodelled, Unknown, Multiply, Divide}
use Rattle.sparc_decode.specs.declared.instruction.Second.{Second}
use Rattle.sparc_decode.specs.declared.instruction.Second.TheVariants.{Reg, Imm}
use Rattle.sparc_machine.specs.Effect.{address_in, is_odd_double_load, is_odd_double_store}
use Rattle.sparc_machine.specs.Frame.{Transfer, Stays, Calls, Returns, instruction_at, is_return, lets_call, transfer_by, transfer_from, transfer_of}
use Rattle.sparc_machine.specs.Straight.{code_instruction}
use Rattle.sparc_machine.specs.declared.machine.Machine.{Machine}
use Rattle.transfer_acts.specs.Act.{act_of, act_there, act_at, behind, calling, call_to, in_line, is_next, is_save, linked, open_instruction, sum_of}
use Rattle.transfer_acts.specs.Agreement.{ActsAgreeWithFrames, Agrees}
use Rattle.transfer_acts.specs.Reading.{is_stub}
use Rattle.transfer_acts.specs.Step.{nothing}
use Rattle.call_effects.specs.Cell.{cell_of}
use Rattle.transfer_rules.specs.declared.act.Act.{Act}
use Rattle.transfer_rules.specs.declared.act.Act.TheVariants.{Dead, Open, Acts}
use Rattle.transfer_rules.specs.declared.act.Aim.TheVariants.{Fixed}
use Rattle.transfer_rules.specs.declared.act.Candidates.TheVariants.{Functions, Labels}
use Rattle.transfer_rules.specs.declared.act.Way.TheVariants.{CallsTo, JumpsTo, ReturnsBy}
use borrow.Author.Tests.{eqb-true}

-- an act whose way, if it has one, is what a step from an address does to the stack
abbrev ActAgrees : Act → ℕ → Transfer → Type 0
ActAgrees Dead pc transfer = Unit {0}
ActAgrees (Open kind) pc transfer = Unit {0}
ActAgrees (Acts step way) pc transfer = Agrees way pc transfer

either : (b : Bool) (x y : Act) (pc : ℕ) (transfer : Transfer) → ActAgrees x pc transfer → ActAgrees y pc transfer
    → ActAgrees (if b then x else y) pc transfer
either true x y pc transfer h k = h
either false x y pc transfer h k = k

in_line_agrees : (p : Place) (act : Act) (pc : ℕ) (transfer : Transfer) → ActAgrees act pc transfer → ActAgrees (in_line p act) pc transfer
in_line_agrees p act pc transfer h = either (is_next p.next p.pc) act open_instruction pc transfer h tt

-- a transfer that leaves its address in r15 is a call exactly where its delay instruction lets it be one
fixed_agrees : (p : Place) (target pc : ℕ) (lets : Bool)
    → ActAgrees (linked p 15 (if lets then CallsTo (Fixed target) else JumpsTo (Fixed target))) pc (if lets then Calls target pc else Stays)
fixed_agrees p target pc true = refl
fixed_agrees p target pc false = refl

computed_agrees : (p : Place) (rs1 : ℕ) (second : Second) (target pc : ℕ) (lets : Bool) (other : Transfer) → other ≡ Stays
    → ActAgrees (linked p 15 (if lets then CallsTo (sum_of p rs1 second Functions) else JumpsTo (sum_of p rs1 second Labels))) pc
    (if lets then Calls target pc else other)
computed_agrees p rs1 second target pc true other same = (target, refl)
computed_agrees p rs1 second target pc false other same = same

call_agrees : (p : Place) (delay : Option Instr) (target pc : ℕ)
    → ActAgrees (call_to p delay target) pc (if lets_call delay then Calls target pc else Stays)
call_agrees p delay target pc =
    either (eqb target (behind p.pc 8)) _ _ pc _ tt (either (is_save delay) _ _ pc _ tt (fixed_agrees p target pc (lets_call delay)))

-- a jump that leaves its address in a register is no return
not_back : (rd rs1 : ℕ) (second : Second) → rd ≡ 15 → is_return rd rs1 second ≡ false
not_back rd rs1 (Reg r) at = refl
not_back rd rs1 (Imm n) at = rw at refl

jump_agrees : (m : Machine) (p : Place) (delay : Option Instr) (rd rs1 : ℕ) (second : Second) (here back : Bool)
    → (here ≡ true → back ≡ false)
    → ActAgrees
    (if here
    then calling p delay (sum_of p rs1 second Functions) (sum_of p rs1 second Labels)
    else (if back then Acts (nothing p.depth) (ReturnsBy (cell_of p.depth rs1)) else linked p rd (JumpsTo (sum_of p rs1 second Labels))))
    m.pc (if here && lets_call delay then Calls (address_in m rs1 second) m.pc else (if back then Returns else Stays))
jump_agrees m p delay rd rs1 second true back apart =
    let none : back ≡ false = apart refl in
    either (is_save delay) _ _ m.pc _ tt
    (computed_agrees p rs1 second (address_in m rs1 second) m.pc (lets_call delay) (if back then Returns else Stays) (rw none refl))
jump_agrees m p delay rd rs1 second false true apart = refl
jump_agrees m p delay rd rs1 second false false apart = refl

-- each instruction does what its way says
pub act_agrees : (eight : Bool) (p : Place) (delay : Option Instr) (i : Instr) (m : Machine) → m.pc ≡ p.pc
    → ActAgrees (act_of eight p delay i) m.pc (transfer_by m i delay)
act_agrees eight p delay (Call disp) m same =
    in_line_agrees p _ m.pc _
    (subst (λ (pc : ℕ). ActAgrees (call_to p delay ((pc + disp * 4) % 2 ^ 32)) m.pc (transfer_by m (Call disp) delay)) same
    (call_agrees p delay ((m.pc + disp * 4) % 2 ^ 32) m.pc))
act_agrees eight p delay (Unimp imm) m same = tt
act_agrees eight p delay (Sethi rd imm) m same = refl
act_agrees eight p delay (Branch annul cond disp) m same = in_line_agrees p _ m.pc _ refl
act_agrees eight p delay (FloatBranch annul cond disp) m same = in_line_agrees p _ m.pc _ refl
act_agrees eight p delay (Alu op cc rd rs1 second) m same = refl
act_agrees eight p delay (Tagged op rd rs1 second) m same = refl
act_agrees eight p delay (MulStep rd rs1 second) m same = refl
act_agrees eight p delay (Shift op rd rs1 second) m same = refl
act_agrees eight p delay (ReadY rd) m same = refl
act_agrees eight p delay (WriteY rs1 second) m same = refl
act_agrees eight p delay (FloatOp these) m same = refl
act_agrees eight p delay (FloatCmp these) m same = refl
act_agrees eight p delay (Jmpl rd rs1 second) m same =
    in_line_agrees p _ m.pc _
    (jump_agrees m p delay rd rs1 second (eqb rd 15) (is_return rd rs1 second) (λ at. not_back rd rs1 second (eqb-true rd 15 at)))
act_agrees eight p delay (Flush rs1 second) m same = refl
act_agrees eight p delay (Save rd rs1 second) m same = either (eqb p.depth 0) _ _ m.pc _ refl tt
act_agrees eight p delay (Restore rd rs1 second) m same = either (eqb p.depth 1) _ _ m.pc _ refl tt
act_agrees eight p delay (Ticc cond rs1 second) m same = either (eqb cond 0) _ _ m.pc _ refl tt
act_agrees eight p delay (Load kind rd rs1 second) m same = either (is_odd_double_load kind rd) _ _ m.pc _ tt refl
act_agrees eight p delay (Store kind rd rs1 second) m same = either (is_odd_double_store kind rd) _ _ m.pc _ tt refl
act_agrees eight p delay (Atomic swap rd rs1 second) m same = refl
act_agrees eight p delay (FloatMem kind rd rs1 second) m same = refl
act_agrees eight p delay (Unmodelled these) m same = tt
act_agrees eight p delay (Unknown these) m same = tt
act_agrees eight p delay (Multiply cc rd rs1 second) m same = either eight _ _ m.pc _ refl tt
act_agrees eight p delay (Divide cc rd rs1 second) m same = either eight _ _ m.pc _ refl tt

-- where an instruction of code stands, it is the one that can be read there
read_where : (b : Bool) (w : Option ℕ) (i : Instr) → option_map instruction_of (if b then w else None) ≡ Some i → option_map instruction_of w ≡ Some i
read_where true w i same = same
read_where false w i same = cc

-- an instruction of code is the one that can be read there
pub code_is_read : (image : List ℕ) (a : ℕ) (i : Instr) → code_instruction image a ≡ Some i → instruction_at image a ≡ Some i
code_is_read image a i same = read_where (is_code image a) (word image a) i same

there_agrees : (binding : List BoundAssertion) (eight : Bool) (p : Place) (delay code read : Option Instr) (m : Machine)
    → m.pc ≡ p.pc → ((i : Instr) → code ≡ Some i → read ≡ Some i)
    → ActAgrees (act_there binding eight p delay code) m.pc (transfer_from m read delay)
there_agrees binding eight p delay None read m same reads = tt
there_agrees binding eight p delay (Some i) read m same reads =
    let is : read ≡ Some i = reads i refl in
    subst (λ (r : Option Instr). ActAgrees (act_there binding eight p delay (Some i)) m.pc (transfer_from m r delay)) (sym is)
    (either (is_stub binding p.pc) _ _ m.pc _ tt (act_agrees eight p delay i m same))

at_agrees : (image : List ℕ) (binding : List BoundAssertion) (eight : Bool) (p : Place) (m : Machine) → m.pc ≡ p.pc
    → ActAgrees (act_at image binding eight p) m.pc
    (transfer_from m (instruction_at image p.pc) (instruction_at image ((p.pc + 4) % 2 ^ 32)))
at_agrees image binding eight p m same =
    either (never binding p.pc) _ _ m.pc _ tt
    (there_agrees binding eight p (instruction_at image (behind p.pc 4)) (code_instruction image p.pc) (instruction_at image p.pc) m same
    (code_is_read image p.pc))

-- what a place does agrees with how the frames of a run read the words: its step is a call, a return, or stays in its
-- frame, as its way says
pub acts_agree_with_frames : ActsAgreeWithFrames
acts_agree_with_frames image binding eight p step way m is same =
    let there : ActAgrees (act_at image binding eight p) m.pc (transfer_of image m) =
    subst
    (λ (pc : ℕ). ActAgrees (act_at image binding eight p) m.pc (transfer_from m (instruction_at image pc) (instruction_at image ((pc + 4) % 2 ^ 32))))
    (sym same) (at_agrees image binding eight p m same) in
    subst (λ (act : Act). ActAgrees act m.pc (transfer_of image m)) is there
