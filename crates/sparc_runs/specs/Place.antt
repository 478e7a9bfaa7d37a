-- A run as functions of a place, which is the number of a machine from its first on.
use Rattle.std.specs.Prelude.{◌≡◌, ℕ, suc, ◌<◌, ◌≤◌, List, [], ◌∷◌, length, Some, slice_get}
use Rattle.sparc_machine.specs.Frame.{StepsTo, RunsFrom, transfer_of, frames_after, root_frame, Stays, config_after, config_at, machine_at, due_at, frames_at}
use Rattle.sparc_machine.specs.declared.machine.Machine.{Machine}

-- what a run is at its places: its machines one after the other, each a step from the one before; the transfer that is due
-- is that of the step that led there, and the stack is what the transfer that was due before leaves of the stack there
pub record IsAtPlaces (image cycles : List ℕ) (first : Machine) (rest : List Machine) : Type 0 where
  pub first_due : due_at image first rest 0 ≡ Stays
  pub first_frames : frames_at image first rest 0 ≡ root_frame first ∷ []
  pub machines : (i : ℕ) → i ≤ length rest → slice_get (first ∷ rest) i ≡ Some (machine_at image first rest i)
  pub steps : (i : ℕ) → i < length rest → StepsTo image cycles (machine_at image first rest i) (machine_at image first rest (suc i))
  pub next : (i : ℕ) → i < length rest
      → config_at image first rest (suc i) ≡ config_after image (config_at image first rest i) (machine_at image first rest (suc i))
  pub due : (i : ℕ) → i < length rest → due_at image first rest (suc i) ≡ transfer_of image (machine_at image first rest i)
  pub frames : (i : ℕ) → i < length rest
      → frames_at image first rest (suc i) ≡ frames_after (due_at image first rest i) (machine_at image first rest (suc i)) (frames_at image first rest i)

-- so it is of each run
abbrev pub RunsAreAtPlaces : Type 0
RunsAreAtPlaces = (image cycles : List ℕ) (first : Machine) (rest : List Machine) → RunsFrom image cycles first rest → IsAtPlaces image cycles first rest

-- once the frame of the root is popped the stack stays empty
abbrev pub EmptyStacksStay : Type 0
EmptyStacksStay =
    (image : List ℕ) (first : Machine) (rest : List Machine) (i j : ℕ) → i ≤ j → frames_at image first rest i ≡ [] → frames_at image first rest j ≡ []
