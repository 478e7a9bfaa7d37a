-- The cells that may count, and the best bound of those gone through.
use Rattle.std.specs.Prelude.{◌≡◌, ℕ, ◌^◌, ◌<◌, ◌≤◌, Bool, true, false, List, Option, Some, None, nat_lt, if◌then◌else◌}
use Rattle.abs_state.specs.declared.head_bound.HeadBound.{HeadBound}
use Rattle.call_effects.specs.Mask.{has_cell}
use Rattle.counter_bound.specs.Counts.{CellCounts, IsAdded}
use Rattle.counter_bound.specs.declared.change.Change.{Change}
use Rattle.counter_bound.specs.declared.touching.Touched.{Touched}
use Rattle.graph_laws.specs.Loops.{Loops}
use Rattle.turn_sums.specs.declared.step.TurnStep.{TurnStep}
use Rattle.turn_sums.specs.declared.step.TurnStep.TheVariants.{Rises, Falls}

-- cells that aren't spoilt are only added to, outside of loops inside; those that count are added to and not spoilt
pub record AreCandidates (edge : ℕ → ℕ → Bool) (loops : Loops) (head : ℕ) (changes : List Change) (touched : Touched) : Type 0 where
  pub added : (cell : ℕ) → has_cell touched.spoilt cell ≡ false → IsAdded loops head changes cell
  pub adds : (cell : ℕ) (step : TurnStep) → CellCounts edge loops head changes cell step → has_cell touched.adds cell ≡ true
  pub free : (cell : ℕ) (step : TurnStep) → CellCounts edge loops head changes cell step → has_cell touched.spoilt cell ≡ false
  pub cells : (cell : ℕ) (step : TurnStep) → CellCounts edge loops head changes cell step → cell < 48

-- a step with its sign is a number of 64 bits
abbrev pub IsShortStep : TurnStep → Type 0
IsShortStep (Rises by) = (1 ≤ by) × (by < 2 ^ 63)
IsShortStep (Falls by) = (1 ≤ by) × (by ≤ 2 ^ 63)

-- the better of two bounds, where the second has the greater cell
abbrev pub better_of : Option HeadBound → HeadBound → Option HeadBound
better_of None bound = Some bound
better_of (Some old) bound = if nat_lt bound.passes old.passes then Some bound else Some old
