-- What rows of keys say.
use Rattle.std.specs.Prelude.{◌≡◌, ◌==◌, ◌&&◌, ◌↔◌, ◌<◌, ℕ, Bool, true, false, List, [], ◌∷◌, Contains, is_some, length}
use Rattle.std.specs.List.Sorted.{IsStrictlySortedBy}
use Rattle.std.specs.Map.{keys_of}
use Rattle.abs_state.specs.Key.{compare}
use Rattle.abs_state.specs.declared.key.Key.{Key}
use Rattle.abs_state.specs.declared.key.Key.TheVariants as key
use Rattle.abs_state.specs.declared.key.Next.TheVariants.{Into}
use Rattle.abs_state.specs.declared.key.Place.{Place}
use Rattle.bt_base.specs.Graph.{IsGraph, is_edge}
use Rattle.context_bounds.specs.Own.{own_keys}
use Rattle.context_facts.specs.Context.{AreLawful, IsAmong, IsKept, is_local, with_others}
use Rattle.context_outcomes.specs.Inside.{Shape}
use Rattle.flow_system.specs.Facts.{KeysRise, fact_at}
use Rattle.flow_system.specs.State.{IsClosed}
use Rattle.graph_laws.specs.Nest.{IsReached}
use Rattle.graph_view.specs.Numbers.{IsStepGraph, place_cmp}
use Rattle.graph_view.specs.View.{AreViewed, by_kind, nodes_of, steps_of}
use Rattle.local_facts.specs.Restricted.{IsLeastLocal, IsRestriction, is_listed}
use Rattle.transfer_rules.specs.Closed.{HasState}
use Rattle.transfer_rules.specs.Fact.{Piece}
use Rattle.transfer_rules.specs.Family.{Family, Program}
use Rattle.transfer_rules.specs.Give.{Facts, entered_with, entry_of, gives}
use Rattle.transfer_rules.specs.Lawful.{rules_of}
use Rattle.transfer_rules.specs.declared.fact.Fact.{Fact}
use Rattle.transfer_rules.specs.declared.fact.Fact.TheVariants as fact
use Rattle.value_lattice.specs.declared.value.Value.{Value}

-- the keys of a subprogram's row rise, and are those of the subprogram that facts have
pub record AreKept (pieces : List Piece) (sub : ℕ) : Type 0 where
  pub rise : IsStrictlySortedBy compare (own_keys (keys_of pieces) sub)
  pub each : (k : Key) → (is_listed compare (own_keys (keys_of pieces) sub) k ≡ true) ↔ ((is_local sub k ≡ true) × (is_some (fact_at compare pieces k) ≡ true))

abbrev pub OwnKeysAreKept : Type 0
OwnKeysAreKept = (pieces : List Piece) (sub : ℕ) → KeysRise compare pieces → AreKept pieces sub

-- of what is fixed beside kept keys no more matters than what it says of the subprograms that kept program points call
pub record SayTheSame (keep : List Key) (one two : List Piece) : Type 0 where
  pub apart : (q : ℕ) → is_listed compare keep (key.Summary q) ≡ false
  pub called : (p : Place) (t : ℕ) → is_listed compare keep (key.Node p) ≡ true → p.next ≡ Into t
      → fact_at compare one (key.Summary t) ≡ fact_at compare two (key.Summary t)

abbrev pub CalledAreEnough : Type 0
CalledAreEnough = (t : List ℕ) (f : Family) (m : Program) (starts : List Piece) (keep : List Key) (one two : List Piece) (s : Facts) → SayTheSame keep one two
    → IsLeastLocal compare (rules_of t f m) starts keep one s → IsLeastLocal compare (rules_of t f m) starts keep two s

-- a test of keys that the entry of a subprogram passes, and that each program point of facts which passes hands on to what it
-- gives among them
pub record IsHandedOn (g : Family) (m : Program) (x : Facts) (sub : ℕ) (s : Facts) (test : Key → Bool) : Type 0 where
  pub entry : test (key.Node (entry_of sub)) ≡ true
  pub onward : (p : Place) (j : Key) (v : Fact) → test (key.Node p) ≡ true → is_some (s (key.Node p)) ≡ true → p.sub ≡ sub
      → Contains (gives g m (key.Node p) (with_others s x)) (j, v) → is_local sub j ≡ true → IsAmong s j v → test j ≡ true

-- all keys of a context's facts pass such a test
abbrev pub ContextsPass : Type 0
ContextsPass =
    (t more : List ℕ) (f g : Family) (m : Program) (x : Facts) (sub : ℕ) (args : List Value) (keep : List Key) (fixed : List Piece) (s : Facts)
    (test : Key → Bool)
    → AreLawful t more f g m → IsClosed (rules_of t f m) x → HasState x (entry_of sub) (entered_with args) → IsKept x sub keep fixed
    → IsRestriction compare (rules_of more g m) ((key.Node (entry_of sub), fact.State (entered_with args)) ∷ []) keep fixed
    → IsLeastLocal compare (rules_of more g m) ((key.Node (entry_of sub), fact.State (entered_with args)) ∷ []) keep fixed s
    → IsHandedOn g m x sub s test → (k : Key) → is_some (s k) ≡ true → test k ≡ true

-- marks that begin at the entry of a subprogram and follow the steps of facts
pub record AreMarks (s : Facts) (sub : ℕ) (mark : Place → Bool) : Type 0 where
  pub entry : mark (entry_of sub) ≡ true
  pub onward : (p q : Place) → mark p ≡ true → is_some (s (key.Edge p q)) ≡ true → mark q ≡ true

-- have all program points of the facts of a context
abbrev pub MarksAreAll : Type 0
MarksAreAll =
    (t more : List ℕ) (f g : Family) (m : Program) (x : Facts) (sub : ℕ) (args : List Value) (keep : List Key) (fixed : List Piece) (s : Facts)
    (mark : Place → Bool)
    → AreLawful t more f g m → IsClosed (rules_of t f m) x → HasState x (entry_of sub) (entered_with args) → IsKept x sub keep fixed
    → IsRestriction compare (rules_of more g m) ((key.Node (entry_of sub), fact.State (entered_with args)) ∷ []) keep fixed
    → IsLeastLocal compare (rules_of more g m) ((key.Node (entry_of sub), fact.State (entered_with args)) ∷ []) keep fixed s
    → AreMarks s sub mark → (p : Place) → is_some (s (key.Node p)) ≡ true → mark p ≡ true

-- whether the program points that a key names are there, and a step's are of one subprogram
abbrev pub stands : Facts → Key → Bool
stands s (key.Node p) = true
stands s (key.Edge p q) = is_some (s (key.Node p)) && (is_some (s (key.Node q)) && (p.sub == q.sub))
stands s (key.Call p t) = is_some (s (key.Node p))
stands s (key.Summary sub) = true
stands s (key.Gap sub pc kind) = true

-- so it is in the facts of a context
abbrev pub ContextsStand : Type 0
ContextsStand =
    (t more : List ℕ) (f g : Family) (m : Program) (x : Facts) (sub : ℕ) (args : List Value) (keep : List Key) (fixed : List Piece) (s : Facts)
    → AreLawful t more f g m → IsClosed (rules_of t f m) x → HasState x (entry_of sub) (entered_with args) → IsKept x sub keep fixed
    → IsRestriction compare (rules_of more g m) ((key.Node (entry_of sub), fact.State (entered_with args)) ∷ []) keep fixed
    → IsLeastLocal compare (rules_of more g m) ((key.Node (entry_of sub), fact.State (entered_with args)) ∷ []) keep fixed s
    → (k : Key) → is_some (s k) ≡ true → stands s k ≡ true

-- each program point of a context's graph is reached from its entry
abbrev pub ContextsAreReached : Type 0
ContextsAreReached =
    (t more : List ℕ) (f g : Family) (m : Program) (x : Facts) (sub : ℕ) (args : List Value) (keep : List Key) (fixed : List Piece) (s : Facts)
    → AreLawful t more f g m → IsClosed (rules_of t f m) x → HasState x (entry_of sub) (entered_with args) → IsKept x sub keep fixed
    → IsRestriction compare (rules_of more g m) ((key.Node (entry_of sub), fact.State (entered_with args)) ∷ []) keep fixed
    → IsLeastLocal compare (rules_of more g m) ((key.Node (entry_of sub), fact.State (entered_with args)) ∷ []) keep fixed s
    → (shape : Shape s sub) (n : ℕ) → n < length shape.nodes → IsReached (is_edge shape.graph) shape.entry n

-- all facts are a subprogram's program points, steps and calls
abbrev pub IsAllLocal : List Piece → ℕ → Type 0
IsAllLocal pieces sub = (k : Key) → is_some (fact_at compare pieces k) ≡ true → is_local sub k ≡ true

-- the facts as a graph, by the program points of a view of their keys and by its graph
pub record IsShapeOf (pieces : List Piece) (sub : ℕ) (graph : List (List ℕ)) : Type 0 where
  pub shape : Shape (fact_at compare pieces) sub
  pub nodes : shape.nodes ≡ nodes_of (by_kind (keys_of pieces)) sub
  pub edges : shape.graph ≡ graph

-- what a view of the keys of such facts shows is their graph, where they have the entry
abbrev pub ViewsAreShapes : Type 0
ViewsAreShapes =
    (pieces : List Piece) (sub : ℕ) → IsAllLocal pieces sub → IsStrictlySortedBy place_cmp (nodes_of (by_kind (keys_of pieces)) sub)
    → is_some (fact_at compare pieces (key.Node (entry_of sub))) ≡ true → (graph : List (List ℕ)) → IsGraph graph
    → IsStepGraph (nodes_of (by_kind (keys_of pieces)) sub) (steps_of (by_kind (keys_of pieces)) sub) graph → IsShapeOf pieces sub graph

-- a view can be made of facts that have keys of those of which one can be made, and the program points that they name
abbrev pub ContextsAreViewed : Type 0
ContextsAreViewed =
    (whole pieces : List Piece) → AreViewed (keys_of whole) → KeysRise compare pieces
    → ((k : Key) → is_some (fact_at compare pieces k) ≡ true → is_some (fact_at compare whole k) ≡ true)
    → ((k : Key) → is_some (fact_at compare pieces k) ≡ true → stands (fact_at compare pieces) k ≡ true) → AreViewed (keys_of pieces)
