-- What the act of a place keeps of its instruction.
use Rattle.std.specs.Prelude.{◌≡◌, ◌≢◌, ℕ, ◌<◌, Bool, true, false, Contains, Option, Some, None}
use Rattle.abs_state.specs.declared.flags.Right.{Right}
use Rattle.abs_state.specs.declared.key.Place.{Place}
use Rattle.call_effects.specs.Cell.{cell_of}
use Rattle.call_effects.specs.Mask.{has_cell}
use Rattle.sparc_decode.specs.Register.{registers_written}
use Rattle.sparc_decode.specs.declared.instruction.Instr.{Instr}
use Rattle.sparc_decode.specs.declared.instruction.Instr.TheVariants.{Jmpl}
use Rattle.sparc_runs.specs.Cost.{annuls}
use Rattle.transfer_acts.specs.Act.{is_next}
use Rattle.transfer_acts.specs.Step.{nothing}
use Rattle.transfer_rules.specs.Give.{mask_of}
use Rattle.transfer_rules.specs.declared.act.Act.{Act}
use Rattle.transfer_rules.specs.declared.act.Act.TheVariants.{Acts, Dead, Open}
use Rattle.transfer_rules.specs.declared.act.Aim.{Aim}
use Rattle.transfer_rules.specs.declared.act.Aim.TheVariants.{Computed}
use Rattle.transfer_rules.specs.declared.act.Candidates.{Candidates}
use Rattle.transfer_rules.specs.declared.act.Exit.{Exit}
use Rattle.transfer_rules.specs.declared.act.Way.{Way}
use Rattle.transfer_rules.specs.declared.act.Way.TheVariants.{CallsTo, Forks, JumpsTo, Onward, ReturnsBy}
use Rattle.transfer_rules.specs.declared.step.Step.{Step}

-- whether an instruction jumps by registers
abbrev pub is_jump : Instr → Bool
is_jump (Jmpl rd rs1 second) = true
is_jump _ = false

-- where a way leads behind a delay instruction
abbrev pub aim_of : Way → Option Aim
aim_of Onward = None
aim_of (Forks first second) = None
aim_of (CallsTo aim) = Some aim
aim_of (JumpsTo aim) = Some aim
aim_of (ReturnsBy cell) = None

-- A branch writes nothing. In a delay slot control goes on, and nothing is passed over. A transfer keeps the window, and one to
-- a computed address is a jump by registers. The step says of each register that the instruction writes that its cell is written.
pub record StepIs (p : Place) (i : Instr) (step : Step) (way : Way) : Type 0 where
  pub forks : (first second : Option Exit) → way ≡ Forks first second → step ≡ nothing p.depth
  pub onward : is_next p.next p.pc ≡ false → way ≡ Onward
  pub whole : is_next p.next p.pc ≡ false → (from to : ℕ) → annuls (Some i) from to ≡ false
  pub flat : (way ≡ Onward → ⊥) → step.depth ≡ p.depth
  pub computed : (left right : Right) (kind : Candidates) → aim_of way ≡ Some (Computed left right kind) → is_jump i ≡ true
  pub writes : (r : ℕ) → r < 32 → r ≢ 0 → Contains (registers_written i) r → has_cell (mask_of step) (cell_of step.depth r) ≡ true

abbrev pub ActIs : Place → Instr → Act → Type 0
ActIs p i Dead = ⊥
ActIs p i (Open kind) = Unit {0}
ActIs p i (Acts step way) = StepIs p i step way
