-- Branches with the annul bit, where they aren't taken (SPARC Architecture Manual Version 7, "Instructions": branches).
use Rattle.std.specs.Prelude.{◌≡◌, ◌≢◌, ℕ, Bool, true, false, List, Option, Some}
use Rattle.abs_state.specs.declared.key.Place.{Place}
use Rattle.assert_bind.specs.declared.body.BoundAssertion.{BoundAssertion}
use Rattle.sparc_decode.specs.declared.instruction.Instr.{Instr}
use Rattle.sparc_decode.specs.declared.instruction.Instr.TheVariants.{Branch, FloatBranch}
use Rattle.sparc_machine.specs.Straight.{code_instruction}
use Rattle.transfer_acts.specs.Act.{act_at, behind}
use Rattle.transfer_rules.specs.declared.act.Act.TheVariants.{Acts}
use Rattle.transfer_rules.specs.declared.act.Exit.{Exit}
use Rattle.transfer_rules.specs.declared.act.Way.TheVariants.{Forks}
use Rattle.transfer_rules.specs.declared.step.Step.{Step}

-- a branch that has the annul bit
abbrev pub is_annulling : Instr → Bool
is_annulling (Branch annul cond disp) = annul
is_annulling (FloatBranch annul cond disp) = annul
is_annulling _ = false

-- a direction passes the delay instruction of a place over
pub record PassesDelay (p : Place) (exit : Exit) : Type 0 where
  pub past : exit.pc ≡ behind p.pc 8
  pub never : exit.pc ≢ behind p.pc 4

-- the second direction of such a branch, in which it isn't taken, does
abbrev pub UntakenPassDelays : Type 0
UntakenPassDelays =
    (image : List ℕ) (list : List BoundAssertion) (eight : Bool) (p : Place) (i : Instr) (step : Step) (first : Option Exit) (exit : Exit)
    → code_instruction image p.pc ≡ Some i → is_annulling i ≡ true → act_at image list eight p ≡ Acts step (Forks first (Some exit)) → PassesDelay p exit
