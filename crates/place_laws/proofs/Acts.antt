-- The acts of aligned places go to multiples of 4.
use Rattle.std.proofs.Common.{◌≡◌, ℕ, ◌+◌, ◌*◌, ◌%◌, ◌^◌, Bool, true, false, List, Option, Some, None, ◌&&◌, if◌then◌else◌, refl, arith, eqb}
use Rattle.abs_state.specs.declared.key.Place.{Place}
use Rattle.assert_bind.specs.Binding.{never}
use Rattle.assert_bind.specs.declared.body.BoundAssertion.{BoundAssertion}
use Rattle.sparc_decode.specs.declared.instruction.Instr.{Instr}
use Rattle.sparc_decode.specs.declared.instruction.Instr.TheVariants.{Call, Unimp, Sethi, Branch, FloatBranch, Alu, Tagged, MulStep, Shift, ReadY}
use Rattle.sparc_decode.specs.declared.instruction.Instr.TheVariants.{WriteY, FloatOp, FloatCmp, Jmpl, Flush, Save, Restore, Ticc, Load, Store}
use Rattle.sparc_decode.specs.declared.instruction.Instr.TheVariants.{Atomic, FloatMem, Unmodelled, Unknown, Multiply, Divide}
use Rattle.sparc_machine.specs.Effect.{target_of, is_odd_double_load, is_odd_double_store}
use Rattle.sparc_machine.specs.Frame.{instruction_at, is_return, lets_call}
use Rattle.sparc_machine.specs.Straight.{code_instruction}
use Rattle.transfer_acts.specs.Act.{act_at, act_of, act_there, behind, call_to, calling, directions, in_line, is_next, is_save, linked, open_instruction, sum_of, taken, test_of, untaken, untested}
use Rattle.transfer_acts.specs.Reading.{is_stub}
use Rattle.transfer_rules.specs.declared.act.Act.{Act}
use Rattle.transfer_rules.specs.declared.act.Act.TheVariants.{Dead, Open, Acts}
use Rattle.transfer_rules.specs.declared.act.Aim.{Aim}
use Rattle.transfer_rules.specs.declared.act.Aim.TheVariants.{Fixed, Computed}
use Rattle.transfer_rules.specs.declared.act.Candidates.TheVariants.{Functions, Labels}
use Rattle.transfer_rules.specs.declared.act.Exit.{Exit}
use Rattle.transfer_rules.specs.declared.act.Test.{Test}
use Rattle.transfer_rules.specs.declared.act.Way.{Way}
use Rattle.transfer_rules.specs.declared.act.Way.TheVariants.{Onward, Forks, CallsTo, JumpsTo, ReturnsBy}

abbrev pub AimAligned : Aim → Type 0
AimAligned (Fixed t) = t % 4 ≡ 0
AimAligned (Computed left right candidates) = Unit {0}

abbrev pub ExitAligned : Option Exit → Type 0
ExitAligned None = Unit {0}
ExitAligned (Some exit) = (exit.pc % 4 ≡ 0) × (exit.npc % 4 ≡ 0)

-- where a way leads is a multiple of 4, as far as it is known
abbrev pub WayAligned : Way → Type 0
WayAligned Onward = Unit {0}
WayAligned (Forks first second) = ExitAligned first × ExitAligned second
WayAligned (CallsTo aim) = AimAligned aim
WayAligned (JumpsTo aim) = AimAligned aim
WayAligned (ReturnsBy cell) = Unit {0}

abbrev pub ActAligned : Act → Type 0
ActAligned Dead = Unit {0}
ActAligned (Open kind) = Unit {0}
ActAligned (Acts step way) = WayAligned way

-- so many bytes behind a multiple of 4
pub behind_aligned : (a n : ℕ) → a % 4 ≡ 0 → n % 4 ≡ 0 → (a + n) % 2 ^ 32 % 4 ≡ 0
behind_aligned a n one two = omega arith

words_behind : (a k : ℕ) → a % 4 ≡ 0 → (a + k * 4) % 2 ^ 32 % 4 ≡ 0
words_behind a k one = omega arith

either : (b : Bool) (x y : Act) → ActAligned x → ActAligned y → ActAligned (if b then x else y)
either true x y h k = h
either false x y h k = k

in_line_aligned : (p : Place) (act : Act) → ActAligned act → ActAligned (in_line p act)
in_line_aligned p act h = either (is_next p.next p.pc) act open_instruction h tt

exit_if : (b : Bool) (exit : Exit) → ExitAligned (Some exit) → ExitAligned (if b then None else Some exit)
exit_if true exit h = tt
exit_if false exit h = h

taken_aligned : (p : Place) (annul : Bool) (cond target : ℕ) (test : Test) → p.pc % 4 ≡ 0 → target % 4 ≡ 0 → ExitAligned (Some (taken p annul cond target test))
taken_aligned p annul cond target test here to = by (annul && eqb cond 8) where
  by : (b : Bool) → ExitAligned (Some (if b then record { pc = target; npc = behind target 4; test = test } else record { pc = behind p.pc 4; npc = target; test = test }))
  by true = (to, behind_aligned target 4 to refl)
  by false = (behind_aligned p.pc 4 here refl, to)

untaken_aligned : (p : Place) (annul : Bool) (test : Test) → p.pc % 4 ≡ 0 → ExitAligned (Some (untaken p annul test))
untaken_aligned p true test here = (behind_aligned p.pc 8 here refl, behind_aligned p.pc 12 here refl)
untaken_aligned p false test here = (behind_aligned p.pc 4 here refl, behind_aligned p.pc 8 here refl)

directions_aligned : (test : ℕ → Bool → Test) (p : Place) (annul : Bool) (cond target : ℕ) → p.pc % 4 ≡ 0 → target % 4 ≡ 0
    → WayAligned (directions test p annul cond target)
directions_aligned test p annul cond target here to = (
  exit_if (eqb cond 0) (taken p annul cond target (test cond true)) (taken_aligned p annul cond target (test cond true) here to),
  exit_if (eqb cond 8) (untaken p annul (test cond false)) (untaken_aligned p annul (test cond false) here),
)

-- a transfer that leaves its address in r15 goes to its aim, as a call or as a jump
link_aligned : (p : Place) (call jump : Aim) (lets : Bool) → AimAligned call → AimAligned jump
    → ActAligned (linked p 15 (if lets then CallsTo call else JumpsTo jump))
link_aligned p call jump true one two = one
link_aligned p call jump false one two = two

calling_aligned : (p : Place) (delay : Option Instr) (call jump : Aim) → AimAligned call → AimAligned jump → ActAligned (calling p delay call jump)
calling_aligned p delay call jump one two = either (is_save delay) _ _ tt (link_aligned p call jump (lets_call delay) one two)

call_aligned : (p : Place) (delay : Option Instr) (target : ℕ) → target % 4 ≡ 0 → ActAligned (call_to p delay target)
call_aligned p delay target to = either (eqb target (behind p.pc 8)) _ _ tt (calling_aligned p delay (Fixed target) (Fixed target) to to)

-- each instruction of an aligned place leads to multiples of 4
instruction_aligned : (eight : Bool) (p : Place) (delay : Option Instr) (i : Instr) → p.pc % 4 ≡ 0 → ActAligned (act_of eight p delay i)
instruction_aligned eight p delay (Call disp) here = in_line_aligned p _ (call_aligned p delay _ (words_behind p.pc disp here))
instruction_aligned eight p delay (Unimp imm) here = tt
instruction_aligned eight p delay (Sethi rd imm) here = tt
instruction_aligned eight p delay (Branch annul cond disp) here =
    in_line_aligned p _ (directions_aligned test_of p annul cond (target_of p.pc disp) here (words_behind p.pc _ here))
instruction_aligned eight p delay (FloatBranch annul cond disp) here =
    in_line_aligned p _ (directions_aligned untested p annul cond (target_of p.pc disp) here (words_behind p.pc _ here))
instruction_aligned eight p delay (Alu op cc rd rs1 second) here = tt
instruction_aligned eight p delay (Tagged op rd rs1 second) here = tt
instruction_aligned eight p delay (MulStep rd rs1 second) here = tt
instruction_aligned eight p delay (Shift op rd rs1 second) here = tt
instruction_aligned eight p delay (ReadY rd) here = tt
instruction_aligned eight p delay (WriteY rs1 second) here = tt
instruction_aligned eight p delay (FloatOp these) here = tt
instruction_aligned eight p delay (FloatCmp these) here = tt
instruction_aligned eight p delay (Jmpl rd rs1 second) here =
    in_line_aligned p _
    (either (eqb rd 15) _ _ (calling_aligned p delay (sum_of p rs1 second Functions) (sum_of p rs1 second Labels) tt tt)
    (either (is_return rd rs1 second) _ _ tt tt))
instruction_aligned eight p delay (Flush rs1 second) here = tt
instruction_aligned eight p delay (Save rd rs1 second) here = either (eqb p.depth 0) _ _ tt tt
instruction_aligned eight p delay (Restore rd rs1 second) here = either (eqb p.depth 1) _ _ tt tt
instruction_aligned eight p delay (Ticc cond rs1 second) here = either (eqb cond 0) _ _ tt tt
instruction_aligned eight p delay (Load kind rd rs1 second) here = either (is_odd_double_load kind rd) _ _ tt tt
instruction_aligned eight p delay (Store kind rd rs1 second) here = either (is_odd_double_store kind rd) _ _ tt tt
instruction_aligned eight p delay (Atomic swap rd rs1 second) here = tt
instruction_aligned eight p delay (FloatMem kind rd rs1 second) here = tt
instruction_aligned eight p delay (Unmodelled these) here = tt
instruction_aligned eight p delay (Unknown these) here = tt
instruction_aligned eight p delay (Multiply cc rd rs1 second) here = either eight _ _ tt tt
instruction_aligned eight p delay (Divide cc rd rs1 second) here = either eight _ _ tt tt

there_aligned : (list : List BoundAssertion) (eight : Bool) (p : Place) (delay here : Option Instr) → p.pc % 4 ≡ 0 → ActAligned (act_there list eight p delay here)
there_aligned list eight p delay None aligned = tt
there_aligned list eight p delay (Some i) aligned = either (is_stub list p.pc) _ _ tt (instruction_aligned eight p delay i aligned)

-- so does what an aligned place of an image does
pub act_aligned : (image : List ℕ) (list : List BoundAssertion) (eight : Bool) (p : Place) → p.pc % 4 ≡ 0 → ActAligned (act_at image list eight p)
act_aligned image list eight p aligned =
    either (never list p.pc) _ _ tt (there_aligned list eight p (instruction_at image (behind p.pc 4)) (code_instruction image p.pc) aligned)
