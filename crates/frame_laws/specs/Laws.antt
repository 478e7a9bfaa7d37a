-- What the activations of a run owe to their contexts: each walks its graph and keeps the head bounds, and none spends
-- more than its bound.
use Rattle.std.specs.Prelude.{◌≡◌, ℕ, suc, ◌+◌, ◌<◌, ◌≤◌, false, List, ◌∷◌, Some}
use Rattle.std.specs.List.{All}
use Rattle.graph_laws.specs.Walk.{IsWalk}
use Rattle.graph_laws.specs.Loops.{KeepsBounds}
use Rattle.frame_laws.specs.Context.{Family, Context, Standing, In, IsSound}
use Rattle.frame_laws.specs.Run.{Run, Returns}
use Rattle.frame_laws.specs.Activation.{Activation, later_nodes, is_stub, stack_at}
use Rattle.frame_laws.specs.Steps.{AreFollowed}

-- nodes are a walk from the entry of a context that keeps its head bounds
pub record WalksIn (context : Context) (first : ℕ) (rest : List ℕ) : Type 0 where
  pub entry : first ≡ context.entry
  pub walk : IsWalk context.edge first rest
  pub keeps : KeepsBounds context.loops context.bound (first ∷ rest)

-- an activation in a context has gone on such a walk
abbrev pub Walks : Family → Run → Activation → Type 0
Walks family run activation = (c : ℕ) → activation.standing ≡ In c → WalksIn (family c) (run.node c activation.first) (later_nodes run c activation)

-- up to this number of cycles an activation in a bounded context has spent at most its bound
abbrev pub SpendsTo : Family → Run → ℕ → Activation → Type 0
SpendsTo family run cycles activation = (c most : ℕ) → activation.standing ≡ In c → (family c).most ≡ Some most → cycles ≤ run.cycles activation.first + most

-- at each place each activation in a context has gone on a walk of its graph that keeps the head bounds
abbrev pub FramesWalk : Type 0
FramesWalk = (family : Family) (run : Run) (root : Standing) (last : ℕ) → IsSound family → AreFollowed family run root last
    → (place : ℕ) → place ≤ last → All (Walks family run) (stack_at family run root place)

-- at each place without an activation on the stack whose time is asserted, each in a bounded context has spent at most
-- its bound
abbrev pub FramesSpend : Type 0
FramesSpend = (family : Family) (run : Run) (root : Standing) (last : ℕ) → IsSound family → AreFollowed family run root last
    → (place : ℕ) → place ≤ last → All (λ activation. is_stub activation.standing ≡ false) (stack_at family run root place)
    → All (SpendsTo family run (run.cycles place)) (stack_at family run root place)

-- an activation in a bounded context has spent at most its bound once it has returned
abbrev pub PoppedFramesSpend : Type 0
PoppedFramesSpend = (family : Family) (run : Run) (root : Standing) (last : ℕ) → IsSound family → AreFollowed family run root last
    → (place : ℕ) (popped : Activation) (rest : List Activation) → place < last → run.move place ≡ Returns → stack_at family run root place ≡ popped ∷ rest
    → SpendsTo family run (run.cycles (suc place)) popped

-- the top activation at a place has spent at most its bound behind the next step too, whatever that step leads to, where
-- it spends at most what is owed and what the node costs
abbrev pub LastFramesSpend : Type 0
LastFramesSpend = (family : Family) (run : Run) (root : Standing) (last : ℕ) → IsSound family → AreFollowed family run root last
    → (top : Activation) (rest : List Activation) → stack_at family run root last ≡ top ∷ rest → (c cycles : ℕ) → top.standing ≡ In c
    → cycles ≤ run.cycles last + run.owed last + (family c).own.node (run.node c last) → SpendsTo family run cycles top
