-- What program points of a context change in cells, and which cells count.
use Rattle.std.specs.Prelude.{◌≡◌, ◌==◌, ◌&&◌, ℕ, ◌%◌, ◌^◌, ℤ, ◌+ℤ◌, pos, negsuc, neg_ℤ, Bool, not, List, map, slice_get, Option, Some, None, int_le, if◌then◌else◌}
use Rattle.std.specs.Int.{w32, cast_signed}
use Rattle.std.specs.Option.{option_and_then}
use Rattle.abs_state.specs.State.{State, cell_at}
use Rattle.abs_state.specs.declared.flags.Right.{Right}
use Rattle.abs_state.specs.declared.flags.Right.TheVariants.{Cell, Word}
use Rattle.abs_state.specs.declared.head_bound.HeadBound.{HeadBound}
use Rattle.abs_state.specs.declared.key.Next.{Next}
use Rattle.abs_state.specs.declared.key.Next.TheVariants.{At, Into, Back}
use Rattle.abs_state.specs.declared.key.Place.{Place}
use Rattle.bt_base.specs.Graph.{is_edge}
use Rattle.call_effects.specs.Cell.{cell_of}
use Rattle.call_effects.specs.Mask.{after_call, union}
use Rattle.counter_bound.specs.Counts.{IsBoundOrNone}
use Rattle.counter_bound.specs.declared.change.Change.{Change}
use Rattle.counter_bound.specs.declared.change.Change.TheVariants.{Add, Other}
use Rattle.graph_laws.specs.Loops.{Loops}
use Rattle.loop_nest.specs.declared.natural_loop.Loop.{Loop}
use Rattle.path_bound.specs.Places.{loops_in}
use Rattle.sparc_decode.specs.declared.instruction.AluOp.{AluOp}
use Rattle.sparc_decode.specs.declared.instruction.AluOp.TheVariants as alu
use Rattle.sparc_decode.specs.declared.instruction.Instr.{Instr}
use Rattle.sparc_decode.specs.declared.instruction.Instr.TheVariants.{Alu}
use Rattle.sparc_machine.specs.Straight.{code_instruction}
use Rattle.stack_laws.specs.Standing.{summary_in}
use Rattle.transfer_acts.specs.Operand.{operand}
use Rattle.transfer_rules.specs.Give.{Facts, mask_of}
use Rattle.transfer_rules.specs.declared.act.Act.{Act}
use Rattle.transfer_rules.specs.declared.act.Act.TheVariants.{Dead, Open, Acts}
use Rattle.value_lattice.specs.Ends.{low_end, high_end}
use Rattle.value_lattice.specs.Order.{number_at}
use Rattle.value_lattice.specs.Value.{one_of}
use Rattle.value_lattice.specs.declared.value.Value.{Value}
use Rattle.wcet_report.specs.declared.context.Context.{Context}
use Rattle.context_outcomes.specs.Inside.{Inside, state_at}
use Rattle.context_outcomes.specs.Setting.{Setting, facts_in, program_of}

-- the one word that an operand is in a state, where it is one
abbrev pub word_of : State → Right → Option ℕ
word_of s (Word n) = Some (n % 2 ^ 32)
word_of s (Cell c) = one_of (cell_at s c)

-- what an addition or a subtraction of a number adds
abbrev pub amount_of : AluOp → ℤ → Option ℤ
amount_of alu.Add n = Some n
amount_of alu.Sub n = Some (neg_ℤ n)
amount_of _ n = None

-- whether a number is one of 32 bits with sign
abbrev pub fits : ℤ → Bool
fits n = int_le (negsuc 2147483647) n && int_le n (pos 2147483647)

-- whether both ends of a value, read with sign, are such numbers once a number is added
abbrev pub ends_fit : Value → ℤ → Bool
ends_fit v k = fits (number_at (low_end v) +ℤ k) && fits (number_at (high_end v) +ℤ k)

abbrev pub added_amount : State → ℕ → Option ℤ → Option Change
added_amount s cell None = None
added_amount s cell (Some k) = if fits k && ends_fit (cell_at s cell) k then Some (Add cell k) else None

abbrev pub added_word : State → AluOp → ℕ → Option ℕ → Option Change
added_word s op cell None = None
added_word s op cell (Some w) = added_amount s cell (amount_of op (cast_signed w32 w))

-- An addition or a subtraction of one word, read with sign, adds a number to the cell that it reads and writes, where no end
-- of that cell's value passes those of the numbers with sign.
abbrev pub added_by : State → ℕ → Option Instr → Option Change
added_by s depth (Some (Alu op cc rd rs1 second)) =
    if (cell_of depth rd == cell_of depth rs1) && not (cell_of depth rd == 0) then added_word s op (cell_of depth rd) (word_of s (operand depth second)) else None
added_by s depth _ = None

-- a delay instruction of a call counts as no addition, since the call changes cells too
abbrev pub added_to : State → ℕ → Option Instr → Next → Option Change
added_to s depth instruction (At n) = added_by s depth instruction
added_to s depth instruction (Into t) = None
added_to s depth instruction Back = added_by s depth instruction

-- the cells that what is called may write, where an act calls
abbrev pub lent_by : Facts → Act → Next → ℕ
lent_by x (Acts step way) (Into t) = after_call (summary_in x t).written step.depth
lent_by x _ _ = 0

-- the cells that an act writes
abbrev pub written_by : Act → ℕ
written_by Dead = 0
written_by (Open kind) = 0
written_by (Acts step way) = mask_of step

-- the cells that are written at a program point, and by what it calls
abbrev pub written_at : Setting → Place → ℕ
written_at S p = union (written_by ((program_of S).act p)) (lent_by (facts_in S) ((program_of S).act p) p.next)

abbrev pub change_or : ℕ → Option Change → Change
change_or mask None = Other mask
change_or mask (Some change) = change

-- what a program point changes, by what is left of its state
abbrev pub change_at : Setting → Place → Option State → Change
change_at S p None = Other (written_at S p)
change_at S p (Some s) = change_or (written_at S p) (added_to s p.depth (code_instruction S.image p.pc) p.next)

-- what each program point of a context changes, in their order
abbrev pub changes_in : {sub : ℕ} {context : Context} (S : Setting) → Inside S sub context → List Change
changes_in S within = map (λ p. change_at S p (state_at S within.args within.facts p)) within.shape.nodes

-- what counts at a head by what is left of its state: the cell with the fewest passes, then the least
abbrev pub IsCounterOf : (ℕ → ℕ → Bool) → Loops → ℕ → List Change → Option State → Option HeadBound → Type 0
IsCounterOf edge loops head changes None counter = counter ≡ None
IsCounterOf edge loops head changes (Some s) counter = IsBoundOrNone edge loops head changes s counter

abbrev pub IsCounterAt : {sub : ℕ} {context : Context} (S : Setting) → Inside S sub context → List Loop → ℕ → Option HeadBound → Type 0
IsCounterAt S within loops head counter =
    IsCounterOf (is_edge within.shape.graph) (loops_in loops) head (changes_in S within)
    (option_and_then (state_at S within.args within.facts) (slice_get within.shape.nodes head)) counter
