-- Runs of a subprogram up to the pop of the frame that they begin in, and what bounds them.
use Rattle.std.specs.Prelude.{◌≡◌, ◌≢◌, ℕ, ◌+◌, ◌*◌, ◌<◌, ◌≤◌, List, [], ◌∷◌, length, Some, slice_get}
use Rattle.sparc_machine.specs.Frame.{RunsFrom, BeginsAt, frames_at}
use Rattle.sparc_machine.specs.declared.machine.Machine.{Machine}

-- no machine of a run follows one at which the stack of frames is empty
abbrev pub EndsAtPop : List ℕ → Machine → List Machine → Type 0
EndsAtPop image first rest = (i : ℕ) → i < length rest → frames_at image first rest i ≢ []

-- the machines of a run stand at so many words from the entry on, one after the other, and spend at most the bound
pub record IsStraightRun (entry count bound : ℕ) (first : Machine) (run : List Machine) : Type 0 where
  pub ends : length run ≤ count + 1
  pub places : (i : ℕ) (m : Machine) → i < count → slice_get run i ≡ Some m → m.pc ≡ entry + 4 * i
  pub spends : (i : ℕ) (m : Machine) → slice_get run i ≡ Some m → m.cycles ≤ first.cycles + bound

-- every run of the subprogram at an entry, up to the pop of its frame, is straight and within the bound
abbrev pub BoundsRuns : List ℕ → List ℕ → ℕ → ℕ → ℕ → Type 0
BoundsRuns image cycles entry count bound =
    (first : Machine) (rest : List Machine) → BeginsAt entry first → RunsFrom image cycles first rest
    → EndsAtPop image first rest → IsStraightRun entry count bound first (first ∷ rest)
