-- What each step of a run owes to the contexts of the activations on the stack.
use Rattle.std.specs.Prelude.{◌≡◌, ℕ, suc, ◌+◌, ◌<◌, ◌≤◌, true, List, ◌∷◌, ◌++◌, map, Some, None}
use Rattle.std.specs.List.{All}
use Rattle.graph_laws.specs.Walk.{AreInside, passes}
use Rattle.frame_laws.specs.Context.{Family, Context, Counter, Standing, Stub, In}
use Rattle.frame_laws.specs.Run.{Run, Goes, Calls, Returns}
use Rattle.frame_laws.specs.Activation.{Activation, places_of, last_of, stack_at}

-- an activation begins at the entry of its context, where no more is owed than the context says
pub record IsEntered (context : Context) (run : Run) (c place : ℕ) : Type 0 where
  pub entry : run.node c place ≡ context.entry
  pub owed : run.owed place ≤ context.start

-- where it stands at a head with a counter, the cell is within the counter's numbers
abbrev pub IsWithin : Context → Run → ℕ → ℕ → Type 0
IsWithin context run c place =
    (h : ℕ) (counter : Counter) → context.loops.has h ≡ true → context.counter h ≡ Some counter → run.node c place ≡ h
    → (counter.lo ≤ run.content place counter.cell) × (run.content place counter.cell ≤ counter.hi)

-- from a place of an activation to its next one leads an edge, and where both are in the body of a head with a counter
-- the cell changes by what the node adds and takes
pub record IsAlong (context : Context) (run : Run) (c from to : ℕ) : Type 0 where
  pub edge : context.edge (run.node c from) (run.node c to) ≡ true
  pub counts : (h : ℕ) (counter : Counter) → context.loops.has h ≡ true → context.counter h ≡ Some counter
      → context.loops.body h (run.node c from) ≡ true → context.loops.body h (run.node c to) ≡ true
      → run.content to counter.cell + counter.changes.down (run.node c from) ≡ run.content from counter.cell + counter.changes.up (run.node c from)

-- a step spends at most what is owed and the cost of its node
abbrev pub PaysNode : Context → Run → ℕ → ℕ → Type 0
PaysNode context run c place = run.cycles (suc place) ≤ run.cycles place + run.owed place + context.own.node (run.node c place)

-- A step within an activation: with what is owed behind it, it spends at most what is owed before it, the cost of its node
-- and that of its edge.
abbrev pub PaysEdge : Context → Run → ℕ → ℕ → Type 0
PaysEdge context run c place =
    run.cycles (suc place) + run.owed (suc place)
    ≤ run.cycles place + run.owed place + context.own.node (run.node c place) + context.own.edge (run.node c place) (run.node c (suc place))

-- a call is one of the context: what its node leads to is called, and an activation in a context begins as that says
pub record IsCall (family : Family) (run : Run) (c place : ℕ) : Type 0 where
  pub callee : Standing
  pub leads : (family c).leads (run.node c place) ≡ Some callee
  pub enters : (d : ℕ) → callee ≡ In d → IsEntered (family d) run d (suc place)
  pub pays : PaysNode (family c) run c place

-- Heads without a counter keep their bounds in each stretch of the places of an activation: this is what is asserted.
abbrev pub KeepsAsserted : Family → Run → Activation → Type 0
KeepsAsserted family run activation =
    (c h : ℕ) (before stretch after : List ℕ) → activation.standing ≡ In c → (family c).loops.has h ≡ true → (family c).counter h ≡ None
    → before ++ (stretch ++ after) ≡ places_of activation → AreInside ((family c).loops.body h) (map (run.node c) stretch)
    → passes h (map (run.node c) stretch) ≤ (family c).bound h

-- Each step of a run up to a place keeps to the contexts. The step behind a return goes along an edge from the node at
-- which the caller waited, and no more is owed there than that edge costs; an activation whose time is asserted has
-- spent at most that at its return.
pub record AreFollowed (family : Family) (run : Run) (root : Standing) (last : ℕ) : Type 0 where
  pub enters : (c : ℕ) → root ≡ In c → IsEntered (family c) run c 0
  pub within : (place c : ℕ) (top : Activation) (rest : List Activation) → place ≤ last → stack_at family run root place ≡ top ∷ rest → top.standing ≡ In c
      → IsWithin (family c) run c place
  pub asserted : (place : ℕ) → place ≤ last → All (KeepsAsserted family run) (stack_at family run root place)
  pub goes : (place c : ℕ) (top : Activation) (rest : List Activation) → place < last → run.move place ≡ Goes → stack_at family run root place ≡ top ∷ rest
      → top.standing ≡ In c
      → IsAlong (family c) run c place (suc place) × PaysEdge (family c) run c place
  pub calls : (place c : ℕ) (top : Activation) (rest : List Activation) → place < last → run.move place ≡ Calls
      → stack_at family run root place ≡ top ∷ rest → top.standing ≡ In c
      → IsCall family run c place
  pub returns : (place c : ℕ) (popped : Activation) (rest : List Activation) → place < last → run.move place ≡ Returns
      → stack_at family run root place ≡ popped ∷ rest → popped.standing ≡ In c
      → PaysNode (family c) run c place
  pub goes_on : (place c : ℕ) (popped caller : Activation) (rest : List Activation) → place < last → run.move place ≡ Returns
      → stack_at family run root place ≡ popped ∷ caller ∷ rest → caller.standing ≡ In c
      → IsAlong (family c) run c (last_of caller) (suc place) × (run.owed (suc place) ≤ (family c).own.edge (run.node c (last_of caller)) (run.node c
      (suc place)))
  pub stubs : (place c time : ℕ) (popped caller : Activation) (rest : List Activation) → place < last → run.move place ≡ Returns
      → stack_at family run root place ≡ popped ∷ caller ∷ rest → caller.standing ≡ In c
      → popped.standing ≡ Stub time → run.cycles (suc place) ≤ run.cycles popped.first + time
