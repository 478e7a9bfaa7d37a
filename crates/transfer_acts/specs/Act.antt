-- What the instruction of a place does: which cells it sets, and how control goes on behind it.
use Rattle.std.specs.Prelude.{◌==◌, ℕ, ◌+◌, ◌*◌, ◌%◌, ◌^◌, ℤ, Bool, true, false, ◌&&◌, ◌||◌, List, Option, Some, None, pos, if◌then◌else◌}
use Rattle.abs_state.specs.declared.flags.Flags.TheVariants as flags
use Rattle.abs_state.specs.declared.key.GapKind.TheVariants as gap
use Rattle.abs_state.specs.declared.key.Next.{Next}
use Rattle.abs_state.specs.declared.key.Next.TheVariants.{At, Into, Back}
use Rattle.abs_state.specs.declared.key.Place.{Place}
use Rattle.assert_bind.specs.Binding.{never}
use Rattle.assert_bind.specs.declared.body.BoundAssertion.{BoundAssertion}
use Rattle.call_effects.specs.Cell.{cell_of}
use Rattle.sparc_decode.specs.declared.instruction.Instr.{Instr}
use Rattle.sparc_decode.specs.declared.instruction.Instr.TheVariants.{Call, Unimp, Sethi, Branch, FloatBranch, Alu, Tagged, MulStep, Shift, ReadY}
use Rattle.sparc_decode.specs.declared.instruction.Instr.TheVariants.{WriteY, FloatOp, FloatCmp, Jmpl, Flush, Save, Restore, Ticc, Load, Store}
use Rattle.sparc_decode.specs.declared.instruction.Instr.TheVariants.{Atomic, FloatMem, Unmodelled, Unknown, Multiply, Divide}
use Rattle.sparc_decode.specs.declared.instruction.Second.{Second}
use Rattle.sparc_machine.specs.Effect.{target_of, is_odd_double_load, is_odd_double_store}
use Rattle.sparc_machine.specs.Frame.{instruction_at, is_return, lets_call}
use Rattle.sparc_machine.specs.Straight.{code_instruction}
use Rattle.transfer_acts.specs.Flag.{where_set}
use Rattle.transfer_acts.specs.Operand.{operand, register, tagged_operation, shift_operation}
use Rattle.transfer_acts.specs.Reading.{is_stub}
use Rattle.transfer_acts.specs.Step.{nothing, sets, applied, operated, turned, read}
use Rattle.transfer_rules.specs.declared.act.Act.{Act}
use Rattle.transfer_rules.specs.declared.act.Act.TheVariants.{Dead, Open, Acts}
use Rattle.transfer_rules.specs.declared.act.Aim.{Aim}
use Rattle.transfer_rules.specs.declared.act.Aim.TheVariants.{Fixed, Computed}
use Rattle.transfer_rules.specs.declared.act.Candidates.{Candidates}
use Rattle.transfer_rules.specs.declared.act.Candidates.TheVariants.{Functions, Labels}
use Rattle.transfer_rules.specs.declared.act.Exit.{Exit}
use Rattle.transfer_rules.specs.declared.act.Test.{Test}
use Rattle.transfer_rules.specs.declared.act.Test.TheVariants.{Always, When}
use Rattle.transfer_rules.specs.declared.act.Way.{Way}
use Rattle.transfer_rules.specs.declared.act.Way.TheVariants.{Onward, Forks, CallsTo, JumpsTo, ReturnsBy}
use Rattle.transfer_rules.specs.declared.step.Source.TheVariants.{Anything, Exactly, Ranged}
use Rattle.transfer_rules.specs.declared.step.Step.{Step}
use Rattle.value_ops.specs.declared.op.Op.TheVariants.{Mul}

-- an address so far behind another, modulo 2 ^ 32
abbrev pub behind : ℕ → ℕ → ℕ
behind a n = (a + n) % 2 ^ 32

-- an instruction that isn't followed
abbrev pub open_instruction : Act
open_instruction = Open gap.Instr

-- an instruction that only sets cells
abbrev pub plain : Step → Act
plain step = Acts step Onward

-- whether control goes on to the instruction behind that of a place: no transfer stands in a delay slot
abbrev pub is_next : Next → ℕ → Bool
is_next (At n) pc = n == behind pc 4
is_next (Into t) pc = false
is_next Back pc = false

-- a transfer in its place
abbrev pub in_line : Place → Act → Act
in_line p act = if is_next p.next p.pc then act else open_instruction

-- when a direction of a branch is taken: a condition that is always or never true is no test
abbrev pub test_of : ℕ → Bool → Test
test_of cond truth = if (cond == 8) || (cond == 0) then Always else When cond truth

-- no test, where the condition isn't followed
abbrev pub untested : ℕ → Bool → Test
untested cond truth = Always

-- where a taken branch goes on to: behind its delay instruction to the target, or there at once where it always passes
-- the delay instruction over
abbrev pub taken : Place → Bool → ℕ → ℕ → Test → Exit
taken p annul cond target test =
    if annul && (cond == 8)
    then record { pc = target; npc = behind target 4; test = test }
    else record { pc = behind p.pc 4; npc = target; test = test }

-- where an untaken branch goes on to: an annulling one passes its delay instruction over
abbrev pub untaken : Place → Bool → Test → Exit
untaken p annul test =
    if annul
    then record { pc = behind p.pc 8; npc = behind p.pc 12; test = test }
    else record { pc = behind p.pc 4; npc = behind p.pc 8; test = test }

-- the directions of a branch: condition 0 is never taken, and condition 8 always
abbrev pub directions : (ℕ → Bool → Test) → Place → Bool → ℕ → ℕ → Way
directions test p annul cond target =
    Forks (if cond == 0 then None else Some (taken p annul cond target (test cond true)))
    (if cond == 8 then None else Some (untaken p annul (test cond false)))

-- a branch to a displacement
abbrev pub branch : (ℕ → Bool → Test) → Place → Bool → ℕ → ℤ → Act
branch test p annul cond disp = in_line p (Acts (nothing p.depth) (directions test p annul cond (target_of p.pc disp)))

-- whether the instruction behind a call is a SAVE
abbrev pub is_save : Option Instr → Bool
is_save (Some (Save rd rs1 second)) = true
is_save _ = false

-- a transfer that leaves its address in a register
abbrev pub linked : Place → ℕ → Way → Act
linked p rd way = Acts (sets p.depth rd (Exactly p.pc) None) way

-- a transfer that leaves its address in r15: a call, or a jump within the frame where the instruction behind it is a
-- RESTORE or writes r15; one that is a SAVE isn't followed
abbrev pub calling : Place → Option Instr → Aim → Aim → Act
calling p delay call jump =
    if is_save delay then open_instruction else linked p 15 (if lets_call delay then CallsTo call else JumpsTo jump)

-- CALL: one target, which isn't behind its delay instruction
abbrev pub call_to : Place → Option Instr → ℕ → Act
call_to p delay target = if target == behind p.pc 8 then open_instruction else calling p delay (Fixed target) (Fixed target)

-- the sum that a jump goes to
abbrev pub sum_of : Place → ℕ → Second → Candidates → Aim
sum_of p rs1 second candidates = Computed (register p.depth rs1) (operand p.depth second) candidates

-- JMPL: a call, a return or another jump
abbrev pub jump_to : Place → Option Instr → ℕ → ℕ → Second → Act
jump_to p delay rd rs1 second =
    if rd == 15 then calling p delay (sum_of p rs1 second Functions) (sum_of p rs1 second Labels)
    else (if is_return rd rs1 second then Acts (nothing p.depth) (ReturnsBy (cell_of p.depth rs1))
    else linked p rd (JumpsTo (sum_of p rs1 second Labels)))

-- SAVE is followed at the window of the entry, and RESTORE at the one below it
abbrev pub save : ℕ → ℕ → ℕ → Second → Act
save depth rd rs1 second = if depth == 0 then plain (turned 0 1 rd rs1 second) else open_instruction

abbrev pub restore : ℕ → ℕ → ℕ → Second → Act
restore depth rd rs1 second = if depth == 1 then plain (turned 1 0 rd rs1 second) else open_instruction

-- what an instruction of a place does, where the table of cycles is of version 2 or isn't, and with the instruction
-- behind it
abbrev pub act_of : Bool → Place → Option Instr → Instr → Act
act_of eight p delay (Call disp) = in_line p (call_to p delay ((p.pc + disp * 4) % 2 ^ 32))
act_of eight p delay (Unimp imm) = open_instruction
act_of eight p delay (Sethi rd imm) = plain (sets p.depth rd (Exactly (imm * 1024)) None)
act_of eight p delay (Branch annul cond disp) = branch test_of p annul cond disp
act_of eight p delay (FloatBranch annul cond disp) = branch untested p annul cond disp
act_of eight p delay (Alu op cc rd rs1 second) = plain (operated p.depth op cc rd rs1 second)
act_of eight p delay (Tagged op rd rs1 second) = plain (sets p.depth rd (applied (tagged_operation op) p.depth rs1 second) (Some flags.Unknown))
act_of eight p delay (MulStep rd rs1 second) = plain (sets p.depth rd Anything (Some flags.Unknown))
act_of eight p delay (Shift op rd rs1 second) = plain (sets p.depth rd (applied (shift_operation op) p.depth rs1 second) None)
act_of eight p delay (ReadY rd) = plain (sets p.depth rd Anything None)
act_of eight p delay (WriteY rs1 second) = plain (nothing p.depth)
act_of eight p delay (FloatOp these) = plain (nothing p.depth)
act_of eight p delay (FloatCmp these) = plain (nothing p.depth)
act_of eight p delay (Jmpl rd rs1 second) = in_line p (jump_to p delay rd rs1 second)
act_of eight p delay (Flush rs1 second) = plain (nothing p.depth)
act_of eight p delay (Save rd rs1 second) = save p.depth rd rs1 second
act_of eight p delay (Restore rd rs1 second) = restore p.depth rd rs1 second
act_of eight p delay (Ticc cond rs1 second) = if cond == 0 then plain (nothing p.depth) else open_instruction
act_of eight p delay (Load kind rd rs1 second) = if is_odd_double_load kind rd then open_instruction else plain (read p.depth kind rd rs1 second)
act_of eight p delay (Store kind rd rs1 second) = if is_odd_double_store kind rd then open_instruction else plain (nothing p.depth)
act_of eight p delay (Atomic swap rd rs1 second) = plain (sets p.depth rd (if swap then Anything else Ranged (pos 0) (pos 255)) None)
act_of eight p delay (FloatMem kind rd rs1 second) = plain (nothing p.depth)
act_of eight p delay (Unmodelled these) = open_instruction
act_of eight p delay (Unknown these) = open_instruction
act_of eight p delay (Multiply cc rd rs1 second) =
    if eight then plain (sets p.depth rd (applied Mul p.depth rs1 second) (where_set cc flags.Unknown)) else open_instruction
act_of eight p delay (Divide cc rd rs1 second) = if eight then plain (sets p.depth rd Anything (where_set cc flags.Unknown)) else open_instruction

-- what a place does where its word isn't asserted never to be reached: nothing comes of what is no code, a stub isn't
-- looked into, and any other does what its instruction does
abbrev pub act_there : List BoundAssertion → Bool → Place → Option Instr → Option Instr → Act
act_there binding eight p delay None = Dead
act_there binding eight p delay (Some instruction) = if is_stub binding p.pc then Open gap.Jump else act_of eight p delay instruction

-- what the instruction of a place does
abbrev pub act_at : List ℕ → List BoundAssertion → Bool → Place → Act
act_at image binding eight p =
    if never binding p.pc then Dead
    else act_there binding eight p (instruction_at image (behind p.pc 4)) (code_instruction image p.pc)
