-- Runs of the machine as runs of frames in contexts.
use Rattle.std.specs.Prelude.{◌≡◌, ℕ, suc, ◌+◌, ◌<◌, ◌≤◌, true, List, [], ◌∷◌, length, Some, All}
use Rattle.std.specs.Int.{w32, cast_signed}
use Rattle.assert_bind.specs.declared.body.BoundAssertion.{BoundAssertion}
use Rattle.cell_places.specs.Place.{content_of}
use Rattle.frame_laws.specs.Activation.{Activation, last_of, stack_at}
use Rattle.frame_laws.specs.Context.{Counter, Standing, In, IsSound}
use Rattle.frame_laws.specs.Laws.{Walks}
use Rattle.frame_laws.specs.Run.{Run, Move, Goes, Calls as CallsIn, Returns as ReturnsTo}
use Rattle.frame_laws.specs.Steps.{IsWithin, KeepsAsserted}
use Rattle.sparc_machine.specs.Frame.{Frame, Transfer, Stays, Calls, Returns, machine_at, due_at, frames_at, root_frame}
use Rattle.sparc_machine.specs.declared.machine.Machine.{Machine}
use Rattle.sparc_runs.specs.Cost.{owed}
use Rattle.stack_laws.specs.Followed.{IsBeforeGaps, IsFollowable}
use Rattle.stack_laws.specs.Standing.{place_of}
use Rattle.stack_laws.specs.StepFacts.{ArePlain}
use Rattle.context_runs.specs.Contexts.{Contexts, AreFilled, facts_of, standing_of}
use Rattle.transfer_rules.specs.Give.{Facts}
use Rattle.value_lattice.specs.Order.{rank_of}

-- what the step behind a transfer does to the stack
abbrev pub move_of : Transfer → Move
move_of Stays = Goes
move_of (Calls target address) = CallsIn
move_of Returns = ReturnsTo

-- the frame on top of a stack
abbrev pub top_of : Frame → List Frame → Frame
top_of other [] = other
top_of other (top ∷ rest) = top

-- A run of the machine at its places: the node of the program point of the machine in the frame on top, what its step is owed,
-- and what a cell of that frame holds, as the place of a number with sign.
abbrev pub run_of : Contexts → List ℕ → List ℕ → Machine → List Machine → Run
run_of F image costs first rest = record {
  move = λ i. move_of (due_at image first rest i);
  node = λ c i. F.number c (place_of (due_at image first rest i) (top_of (root_frame first) (frames_at image first rest i)) (machine_at image first rest i));
  cycles = λ i. (machine_at image first rest i).cycles;
  owed = λ i. owed image costs (machine_at image first rest i);
  content = λ i cell.
      rank_of (cast_signed w32 (content_of (machine_at image first rest i) (top_of (root_frame first) (frames_at image first rest i)).start.cwp cell));
}

-- how the root's frame stands
abbrev pub root_of : Contexts → Machine → Standing
root_of F first = F.roots first.pc

-- an activation of the stack at a place is this frame: it stands as the frame does, and began with the frame's machine
pub record IsFrame (F : Contexts) (image : List ℕ) (first : Machine) (rest : List Machine) (a : Activation) (f : Frame) (below : List Frame) : Type 0 where
  pub standing : a.standing ≡ standing_of F (f ∷ below)
  pub start : machine_at image first rest a.first ≡ f.start

-- activations are these frames, one for each
abbrev pub AreFrames : Contexts → List ℕ → Machine → List Machine → List Activation → List Frame → Type 0
AreFrames F image first rest [] [] = Unit {0}
AreFrames F image first rest (a ∷ callers) (f ∷ below) = IsFrame F image first rest a f below × AreFrames F image first rest callers below
AreFrames F image first rest [] (f ∷ below) = ⊥
AreFrames F image first rest (a ∷ callers) [] = ⊥

-- from one place of a frame in a context to another a cell that counts changes by what the node adds and takes
abbrev pub Counts : Contexts → List ℕ → List ℕ → Machine → List Machine → ℕ → ℕ → ℕ → Type 0
Counts F image costs first rest c from to =
    (h : ℕ) (counter : Counter) → (F.family c).loops.has h ≡ true → (F.family c).counter h ≡ Some counter
    → (F.family c).loops.body h ((run_of F image costs first rest).node c from) ≡ true
    → (F.family c).loops.body h ((run_of F image costs first rest).node c to) ≡ true
    → (run_of F image costs first rest).content to counter.cell + counter.changes.down ((run_of F image costs first rest).node c from)
    ≡ (run_of F image costs first rest).content from counter.cell + counter.changes.up ((run_of F image costs first rest).node c from)

-- what frames owe to what counts in them, and to asserted counts: at a head with a counter the cell is within its numbers, from a
-- place of a frame to its next one the cell changes by what the node adds and takes, and heads without one keep their bounds
pub record AreCounted (F : Contexts) (image costs : List ℕ) (first : Machine) (rest : List Machine) (last : ℕ) : Type 0 where
  pub within : (place c : ℕ) (top : Activation) (below : List Activation) → place ≤ last
      → stack_at F.family (run_of F image costs first rest) (root_of F first) place ≡ top ∷ below → top.standing ≡ In c
      → IsWithin (F.family c) (run_of F image costs first rest) c place
  pub asserted : (place : ℕ) → place ≤ last
      → All (KeepsAsserted F.family (run_of F image costs first rest)) (stack_at F.family (run_of F image costs first rest) (root_of F first) place)
  pub goes : (place c : ℕ) (top : Activation) (below : List Activation) → place < last → (run_of F image costs first rest).move place ≡ Goes
      → stack_at F.family (run_of F image costs first rest) (root_of F first) place ≡ top ∷ below → top.standing ≡ In c
      → Counts F image costs first rest c place (suc place)
  pub goes_on : (place c : ℕ) (popped caller : Activation) (below : List Activation) → place < last → (run_of F image costs first rest).move place ≡ ReturnsTo
      → stack_at F.family (run_of F image costs first rest) (root_of F first) place ≡ popped ∷ caller ∷ below → caller.standing ≡ In c
      → Counts F image costs first rest c (last_of caller) (suc place)

-- a run may be followed, up to a place, over the facts of its frames' contexts, whose graphs are filled in
pub record IsPlaced (F : Contexts) (image costs : List ℕ) (list : List BoundAssertion) (x : Facts) (root : ℕ) (first : Machine) (rest : List Machine)
    (last : ℕ) : Type 0 where
  pub follows : IsFollowable image costs list (facts_of F x) x root first rest
  pub filled : AreFilled image costs list F
  pub last_within : last ≤ length rest
  pub before : IsBeforeGaps image list x first rest last

-- and what counts in its frames counts
pub record IsJoinable (F : Contexts) (image costs : List ℕ) (list : List BoundAssertion) (x : Facts) (root : ℕ) (first : Machine) (rest : List Machine)
    (last : ℕ) : Type 0 where
  pub placed : IsPlaced F image costs list x root first rest last
  pub counted : AreCounted F image costs first rest last

-- no frame has spent more than the bound of its context
abbrev pub HaveSpent : Contexts → ℕ → List Frame → Type 0
HaveSpent F cycles [] = Unit {0}
HaveSpent F cycles (f ∷ below) =
    ((c most : ℕ) → standing_of F (f ∷ below) ≡ In c → (F.family c).most ≡ Some most → cycles ≤ f.start.cycles + most) × HaveSpent F cycles below

-- what is said of each frame of the stack at a place: it has walked its context's graph keeping the head bounds, and spent at
-- most its bound
pub record KeepsContexts (F : Contexts) (image costs : List ℕ) (list : List BoundAssertion) (first : Machine) (rest : List Machine) (place : ℕ) : Type 0 where
  pub frames : AreFrames F image first rest (stack_at F.family (run_of F image costs first rest) (root_of F first) place) (frames_at image first rest place)
  pub walk : All (Walks F.family (run_of F image costs first rest)) (stack_at F.family (run_of F image costs first rest) (root_of F first) place)
  pub spend : ArePlain list (frames_at image first rest place) → HaveSpent F (machine_at image first rest place).cycles (frames_at image first rest place)

-- a frame that is popped has spent at most its bound
abbrev pub PoppedSpent : Contexts → List ℕ → Machine → List Machine → ℕ → Type 0
PoppedSpent F image first rest place =
    (f : Frame) (below : List Frame) (c most : ℕ) → due_at image first rest place ≡ Returns → frames_at image first rest place ≡ f ∷ below
    → standing_of F (f ∷ below) ≡ In c → (F.family c).most ≡ Some most
    → (machine_at image first rest (suc place)).cycles ≤ f.start.cycles + most

-- each frame of a run walks the graph of its context and spends at most its bound, at each place and at its pop
abbrev pub RunsKeepContexts : Type 0
RunsKeepContexts =
    (F : Contexts) (image costs : List ℕ) (list : List BoundAssertion) (x : Facts) (root : ℕ) (first : Machine) (rest : List Machine) (last : ℕ)
    → IsSound F.family → IsJoinable F image costs list x root first rest last → (place : ℕ) → place ≤ last
    → KeepsContexts F image costs list first rest place × (place < last → PoppedSpent F image first rest place)
