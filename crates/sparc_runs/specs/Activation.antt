-- Frames with the places of a run at which each is on top, for what is counted in them.
use Rattle.std.specs.Prelude.{◌≡◌, ℕ, zero, suc, ◌≤◌, List, [], ◌∷◌, ◌++◌, length, map, All}
use Rattle.graph_laws.specs.Walk.{end_of}
use Rattle.sparc_machine.specs.Frame.{Frame, Transfer, Stays, Calls, Returns, root_frame, machine_at, due_at, frames_at}
use Rattle.sparc_machine.specs.declared.machine.Machine.{Machine}

-- a frame, the place at which it was pushed, and the later places at which it was on top, in their order
pub record Activation : Type 0 where
  pub frame : Frame
  pub first : ℕ
  pub later : List ℕ

-- the frame is on top at one place more
abbrev pub also_at : ℕ → Activation → Activation
also_at place a = record a { later = a.later ++ place ∷ [] }

-- the activations of a stack at the next place, behind the step with which this transfer is done
abbrev pub activations_after : Transfer → Machine → ℕ → List Activation → List Activation
activations_after due m place [] = []
activations_after Stays m place (top ∷ rest) = also_at place top ∷ rest
activations_after (Calls target address) m place (top ∷ rest) =
    record { frame = record { sub = target; caller = address; start = m }; first = place; later = [] } ∷ top ∷ rest
activations_after Returns m place (top ∷ []) = []
activations_after Returns m place (top ∷ below ∷ rest) = also_at place below ∷ rest

-- the activations of the stack at each place of a run
abbrev pub activations_at : List ℕ → Machine → List Machine → ℕ → List Activation
activations_at image first rest zero = record { frame = root_frame first; first = 0; later = [] } ∷ []
activations_at image first rest (suc i) =
    activations_after (due_at image first rest i) (machine_at image first rest (suc i)) (suc i) (activations_at image first rest i)

-- the frames of activations
abbrev pub frames_of : List Activation → List Frame
frames_of these = map (λ a. a.frame) these

-- the places at which an activation was on top
abbrev pub places_of : Activation → List ℕ
places_of a = a.first ∷ a.later

-- the latest place at which it was on top
abbrev pub latest : Activation → ℕ
latest a = end_of a.first a.later

-- an activation began at its first place, and each of its places is one up to this
pub record IsActive (image : List ℕ) (first : Machine) (rest : List Machine) (i : ℕ) (a : Activation) : Type 0 where
  pub start : a.frame.start ≡ machine_at image first rest a.first
  pub within : a.first ≤ i
  pub later : All (λ place. place ≤ i) a.later

-- the activations at a place have the frames of the stack there, and the one on top is on top there
pub record AreActivations (image : List ℕ) (first : Machine) (rest : List Machine) (i : ℕ) : Type 0 where
  pub frames : frames_of (activations_at image first rest i) ≡ frames_at image first rest i
  pub active : All (IsActive image first rest i) (activations_at image first rest i)
  pub top : (a : Activation) (below : List Activation) → activations_at image first rest i ≡ a ∷ below → latest a ≡ i

abbrev pub ActivationsAreFrames : Type 0
ActivationsAreFrames =
    (image : List ℕ) (first : Machine) (rest : List Machine) (i : ℕ) → i ≤ length rest → AreActivations image first rest i
