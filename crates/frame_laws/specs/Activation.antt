-- Activations of subprograms, and the stack of them at each place of a run.
use Rattle.std.specs.Prelude.{ℕ, zero, suc, Bool, true, false, List, [], ◌∷◌, ◌++◌, map, unwrap_or}
use Rattle.graph_laws.specs.Walk.{end_of}
use Rattle.frame_laws.specs.Context.{Family, Standing, Free, Stub, In}
use Rattle.frame_laws.specs.Run.{Run, Move, Goes, Calls, Returns}

-- how it stands, the first place at which it is on top of the stack, and the later ones
pub record Activation : Type 0 where
  pub standing : Standing
  pub first : ℕ
  pub later : List ℕ

-- the places at which it is on top
abbrev pub places_of : Activation → List ℕ
places_of activation = activation.first ∷ activation.later

-- the last of them
abbrev pub last_of : Activation → ℕ
last_of activation = end_of activation.first activation.later

-- the nodes at which it stands after its first one
abbrev pub later_nodes : Run → ℕ → Activation → List ℕ
later_nodes run c activation = map (run.node c) activation.later

abbrev pub is_stub : Standing → Bool
is_stub Free = false
is_stub (Stub time) = true
is_stub (In c) = false

abbrev pub begun_at : Standing → ℕ → Activation
begun_at standing place = record { standing = standing; first = place; later = [] }

abbrev pub on_at : Activation → ℕ → Activation
on_at activation place = record { standing = activation.standing; first = activation.first; later = activation.later ++ place ∷ [] }

-- how an activation stands that is called at a place
abbrev pub called_from : Family → Run → Standing → ℕ → Standing
called_from family run Free place = Free
called_from family run (Stub time) place = Free
called_from family run (In c) place = unwrap_or ((family c).leads (run.node c place)) Free

-- the stack behind a step from a place, its top first
abbrev pub stack_after : Family → Run → Move → ℕ → List Activation → List Activation
stack_after family run Goes place [] = []
stack_after family run Goes place (top ∷ rest) = on_at top (suc place) ∷ rest
stack_after family run Calls place [] = begun_at Free (suc place) ∷ []
stack_after family run Calls place (top ∷ rest) = begun_at (called_from family run top.standing place) (suc place) ∷ top ∷ rest
stack_after family run Returns place [] = []
stack_after family run Returns place (popped ∷ []) = []
stack_after family run Returns place (popped ∷ caller ∷ rest) = on_at caller (suc place) ∷ rest

-- the stack at a place, where the run begins in an activation that stands so
abbrev pub stack_at : Family → Run → Standing → ℕ → List Activation
stack_at family run root zero = begun_at root 0 ∷ []
stack_at family run root (suc place) = stack_after family run (run.move place) place (stack_at family run root place)
