-- What computes with states, and what is read off a program: the rules are functions of these.
use Rattle.std.specs.Prelude.{ℕ, Bool, List, Option}
use Rattle.abs_state.specs.State.{State}
use Rattle.abs_state.specs.declared.key.Place.{Place}
use Rattle.jump_resolve.specs.declared.resolved.Resolved.{Resolved}
use Rattle.transfer_rules.specs.declared.act.Act.{Act}
use Rattle.transfer_rules.specs.declared.act.Aim.{Aim}
use Rattle.transfer_rules.specs.declared.act.Test.{Test}
use Rattle.transfer_rules.specs.declared.step.Step.{Step}

-- functions that compute with states over thresholds
pub record Family : Type 0 where
  -- what is left of a state where the assertions at its place hold
  pub narrow : Place → State → Option State
  -- the state behind a step; none where no run takes it
  pub step : Step → State → Option State
  -- what is left of a state where a branch takes a direction
  pub test : Test → State → Option State
  -- where the transfer at an address goes, of the state before it: the targets that are followed, and whether there are no others
  pub resolve : ℕ → Aim → State → Resolved

-- what is read off a program
pub record Program : Type 0 where
  -- what the instruction of a place does
  pub act : Place → Act
  -- whether the subprogram at an entry is a stub
  pub is_stub : ℕ → Bool
  -- whether the delay instruction of a return at a place is that of one that skips a word
  pub skips : Place → Bool
  -- the entries of the roots and of the stubs
  pub roots : List ℕ
  pub stubs : List ℕ
  -- the most targets that a transfer has
  pub widest : ℕ
