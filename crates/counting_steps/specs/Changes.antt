-- What the program points of a context change in a cell that counts.
use Rattle.std.specs.Prelude.{◌≡◌, ◌≢◌, ℕ, ◌+◌, ◌%◌, ◌^◌, ◌<◌, ◌≤◌, ◌⊎◌, Bool, true, false, List, [], ◌∷◌, Option, Some, None}
use Rattle.abs_state.specs.State.{State, cell_at}
use Rattle.abs_state.specs.declared.flags.Right.{Right}
use Rattle.abs_state.specs.declared.flags.Right.TheVariants.{Cell, Word}
use Rattle.abs_state.specs.declared.key.Next.TheVariants.{Into}
use Rattle.abs_state.specs.declared.key.Place.{Place}
use Rattle.assert_bind.specs.declared.body.BoundAssertion.{BoundAssertion}
use Rattle.call_effects.specs.Mask.{after_call, has_cell}
use Rattle.context_runs.specs.Contexts.{Contexts}
use Rattle.context_steps.specs.Followed.{AreContexts}
use Rattle.frame_laws.specs.Context.{Counter}
use Rattle.stack_laws.specs.Standing.{summary_in}
use Rattle.transfer_acts.specs.Program.{program_of}
use Rattle.transfer_rules.specs.Closed.{IsAllowed, IsTaken}
use Rattle.transfer_rules.specs.Give.{Facts, mask_of}
use Rattle.transfer_rules.specs.declared.act.Way.{Way}
use Rattle.transfer_rules.specs.declared.step.Source.TheVariants.{Applied}
use Rattle.transfer_rules.specs.declared.step.Step.{Step}
use Rattle.transfer_values.specs.Family.{family}
use Rattle.transfer_values.specs.Resolve.{widest}
use Rattle.value_lattice.specs.Order.{place_of}
use Rattle.value_lattice.specs.Value.{MayHave}
use Rattle.value_lattice.specs.declared.value.Value.TheVariants.{Words}
use Rattle.value_ops.specs.declared.op.Op.{Op}
use Rattle.value_ops.specs.declared.op.Op.TheVariants as op

-- an operand is exactly one word, in a state
abbrev pub IsOneWord : State → Right → ℕ → Type 0
IsOneWord s (Word n) w = w ≡ n % 2 ^ 32
IsOneWord s (Cell r) w = cell_at s r ≡ Words (w ∷ [])

-- to add a word, or to take it away, is to add one number and take another away, modulo 2 ^ 32
abbrev pub IsAmount : Op → ℕ → ℕ → ℕ → Type 0
IsAmount op.Add word up down = (word + down) % 2 ^ 32 ≡ up % 2 ^ 32
IsAmount op.Sub word up down = (word + up) % 2 ^ 32 ≡ down % 2 ^ 32
IsAmount _ word up down = ⊥

-- a cell isn't written, nor by what is called
pub record Leaves (x : Facts) (p : Place) (step : Step) (cell up down : ℕ) : Type 0 where
  pub free : has_cell (mask_of step) cell ≡ false
  pub call : (t : ℕ) → p.next ≡ Into t → has_cell (after_call (summary_in x t).written step.depth) cell ≡ false
  pub same : up ≡ down

-- a cell is added to or taken from: no word that it may be passes the ends of the numbers with sign
pub record Adds (p : Place) (step : Step) (before : State) (cell up down : ℕ) : Type 0 where
  pub stays : (t : ℕ) → p.next ≡ Into t → ⊥
  pub op : Op
  pub right : Right
  pub word : ℕ
  pub first : step.first ≡ Some (record { cell = cell; source = Applied op (Cell cell) right })
  pub second : step.second ≡ None
  pub one : IsOneWord before right word
  pub amount : IsAmount op word up down
  pub some : cell ≢ 0
  pub fits : (w : ℕ) → w < 2 ^ 32 → MayHave (cell_at before cell) w → (down ≤ place_of w + up) × (place_of w + up < 2 ^ 32 + down)

-- The counters of contexts count: where a program point is in the body of a head with a counter, its step leaves the counter's
-- cell, or adds to it and takes from it what the counter says; and at the head the cell is within the counter's numbers.
pub record AreChanges (image : List ℕ) (list : List BoundAssertion) (eight : Bool) (t : List ℕ) (x : Facts) (F : Contexts)
    (contexts : AreContexts image list eight t x F) : Type 0 where
  pub low : (c h : ℕ) (counter : Counter) → contexts.has c ≡ true → (F.family c).counter h ≡ Some counter → counter.cell < 48
  pub changes : (c h : ℕ) (counter : Counter) (p : Place) (step : Step) (way : Way) (before after : State) → contexts.has c ≡ true
      → (F.family c).loops.has h ≡ true → (F.family c).counter h ≡ Some counter → (F.family c).loops.body h (F.number c p) ≡ true
      → IsTaken (family (contexts.thresholds c) image list) (program_of image list eight (widest image list)) (F.facts c) p step way before after
      → Leaves x p step counter.cell (counter.changes.up (F.number c p)) (counter.changes.down (F.number c p))
      ⊎ Adds p step before counter.cell (counter.changes.up (F.number c p)) (counter.changes.down (F.number c p))
  pub heads : (c h : ℕ) (counter : Counter) (p : Place) (before : State) → contexts.has c ≡ true
      → (F.family c).loops.has h ≡ true → (F.family c).counter h ≡ Some counter → F.number c p ≡ h
      → IsAllowed (family (contexts.thresholds c) image list) (F.facts c) p before
      → (w : ℕ) → w < 2 ^ 32 → MayHave (cell_at before counter.cell) w → (counter.lo ≤ place_of w) × (place_of w ≤ counter.hi)
