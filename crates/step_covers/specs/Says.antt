-- What the functions of the analysis leave of a state that is right: a state that is right, and never nothing.
use Rattle.std.specs.Prelude.{◌≡◌, ℕ, ℤ, ◌^◌, ◌<◌, ◌≤◌, true, List, Option, Some, None}
use Rattle.abs_state.specs.State.{State, is_state_over}
use Rattle.abs_state.specs.declared.key.Place.{Place}
use Rattle.assert_bind.specs.Binding.{range}
use Rattle.assert_bind.specs.declared.body.BoundAssertion.{BoundAssertion}
use Rattle.call_effects.specs.Cell.{cell_of}
use Rattle.state_covers.specs.Covers.{AreContents, Says}
use Rattle.step_covers.specs.Follows.{Follows}
use Rattle.transfer_rules.specs.declared.act.Test.{Test}
use Rattle.transfer_rules.specs.declared.act.Test.TheVariants.{Always, When}
use Rattle.transfer_rules.specs.declared.step.Step.{Step}
use Rattle.transfer_values.specs.Narrow.{narrowed}
use Rattle.transfer_values.specs.Step.{stepped}
use Rattle.transfer_values.specs.Test.{tested}
use Rattle.value_lattice.specs.Order.{rank_of}
use Rattle.value_lattice.specs.Thresholds.{IsThresholds}
use Rattle.value_lattice.specs.Value.{IsBetween}
use Rattle.word_ops.specs.Condition.{holds_of}
use Rattle.word_ops.specs.declared.arithmetic.Flags.{Flags}

-- there is a state, and it is right
abbrev pub SaysSome : Option State → ℕ → (ℕ → ℕ) → Flags → Type 0
SaysSome None ra contents f = ⊥
SaysSome (Some s) ra contents f = Says s ra contents f

-- a state over thresholds that is right about words in cells, in a frame with a return address that is a word
pub record IsRight (t : List ℕ) (s : State) (ra : ℕ) (contents : ℕ → ℕ) (f : Flags) : Type 0 where
  pub thresholds : IsThresholds t
  pub over : is_state_over t s ≡ true
  pub are : AreContents contents
  pub address : ra < 2 ^ 32
  pub says : Says s ra contents f

-- a state that is right, stepped, is right about whatever follows by the step
abbrev pub SteppedStatesSay : Type 0
SteppedStatesSay =
    (t image : List ℕ) (step : Step) (s : State) (ra : ℕ) (old new : ℕ → ℕ) (f next : Flags) → IsRight t s ra old f → AreContents new
    → Follows image step old f new next → SaysSome (stepped t image step s) ra new next

-- a direction of a branch is taken with these condition codes
abbrev pub IsTaken : Test → Flags → Type 0
IsTaken Always f = Unit {0}
IsTaken (When condition truth) f = (condition < 16) × (holds_of condition f ≡ truth)

-- a state that is right is right where a branch takes a direction that these condition codes take
abbrev pub TestedStatesSay : Type 0
TestedStatesSay =
    (t : List ℕ) (test : Test) (s : State) (ra : ℕ) (contents : ℕ → ℕ) (f : Flags) → IsRight t s ra contents f → IsTaken test f
    → SaysSome (tested t test s) ra contents f

-- a word is in the asserted range, if there is one
abbrev pub IsInRange : Option (ℤ × ℤ) → ℕ → Type 0
IsInRange None w = Unit {0}
IsInRange (Some (lo, hi)) w = IsBetween (rank_of lo) (rank_of hi) w

-- the cells hold what is asserted of the registers at a place
abbrev pub KeepsRanges : List BoundAssertion → Place → (ℕ → ℕ) → Type 0
KeepsRanges list p contents = (r : ℕ) → 1 ≤ r → r < 32 → IsInRange (range list p.pc r) (contents (cell_of p.depth r))

-- a state that is right is right once it is narrowed by what is asserted
abbrev pub NarrowedStatesSay : Type 0
NarrowedStatesSay =
    (t : List ℕ) (list : List BoundAssertion) (p : Place) (s : State) (ra : ℕ) (contents : ℕ → ℕ) (f : Flags) → IsRight t s ra contents f
    → KeepsRanges list p contents → SaysSome (narrowed t list p s) ra contents f
