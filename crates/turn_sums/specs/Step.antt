-- Steps of turns: by how much all turns of a loop raise a cell, or all lower it, at the least.
use Rattle.std.specs.Prelude.{◌≡◌, ℕ, ◌+◌, ◌-◌, ◌/◌, ◌≤◌, Bool, List, Option, Some, None}
use Rattle.graph_laws.specs.Walk.{passes}
use Rattle.graph_laws.specs.Counter.{Changes, Visit, IsTurn, turn_up, turn_down, TurnsRise, TurnsFall, IsCounted, nodes_of}
use Rattle.turn_sums.specs.declared.step.TurnStep.{TurnStep}
use Rattle.turn_sums.specs.declared.step.TurnStep.TheVariants.{Rises, Falls}

-- each turn adds at least so much, at least one, and some turn no more
pub record IsLeastRise (edge : ℕ → ℕ → Bool) (body : ℕ → Bool) (head : ℕ) (changes : Changes) (by : ℕ) : Type 0 where
  pub one : 1 ≤ by
  pub rise : TurnsRise edge body head changes by
  pub between : List ℕ
  pub turn : IsTurn edge body head between
  pub is : turn_down changes head between + by ≡ turn_up changes head between

-- the same downward
pub record IsLeastFall (edge : ℕ → ℕ → Bool) (body : ℕ → Bool) (head : ℕ) (changes : Changes) (by : ℕ) : Type 0 where
  pub one : 1 ≤ by
  pub fall : TurnsFall edge body head changes by
  pub between : List ℕ
  pub turn : IsTurn edge body head between
  pub is : turn_up changes head between + by ≡ turn_down changes head between

-- all turns go one way, by at least so much, and some turn by exactly that
abbrev pub IsStep : (ℕ → ℕ → Bool) → (ℕ → Bool) → ℕ → Changes → TurnStep → Type 0
IsStep edge body head changes (Rises by) = IsLeastRise edge body head changes by
IsStep edge body head changes (Falls by) = IsLeastFall edge body head changes by

-- the step, where there is one
abbrev pub IsStepOrNone : (ℕ → ℕ → Bool) → (ℕ → Bool) → ℕ → Changes → Option TurnStep → Type 0
IsStepOrNone edge body head changes None = (step : TurnStep) → IsStep edge body head changes step → ⊥
IsStepOrNone edge body head changes (Some step) = IsStep edge body head changes step

-- its size
abbrev pub size_of : TurnStep → ℕ
size_of (Rises by) = by
size_of (Falls by) = by

-- there is at most one step
abbrev pub StepIsOne : Type 0
StepIsOne = (edge : ℕ → ℕ → Bool) (body : ℕ → Bool) (head : ℕ) (changes : Changes) (one two : TurnStep)
    → IsStep edge body head changes one → IsStep edge body head changes two → one ≡ two

-- a cell that counts by a step, within a range at the head, bounds how often the head is passed
abbrev pub StepBoundsPasses : Type 0
StepBoundsPasses = (edge : ℕ → ℕ → Bool) (body : ℕ → Bool) (head : ℕ) (changes : Changes) (lo hi : ℕ) (step : TurnStep) (stretch : List Visit)
    → IsStep edge body head changes step → IsCounted edge body head changes lo hi stretch → passes head (nodes_of stretch) ≤ (hi - lo) / size_of step + 1
