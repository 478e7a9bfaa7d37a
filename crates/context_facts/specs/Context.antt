-- The facts of a context: of a subprogram that is entered with certain arguments, over thresholds of its own.
use Rattle.std.specs.Prelude.{◌==◌, ◌≡◌, ℕ, ◌&&◌, ◌↔◌, Bool, true, false, List, [], ◌∷◌, Option, Some, None, IsTrue, is_some, Contains}
use Rattle.value_lattice.specs.Height.{are_at_most}
use Rattle.value_lattice.specs.declared.value.Value.{Value}
use Rattle.abs_state.specs.Key.{compare}
use Rattle.abs_state.specs.declared.key.Key.{Key}
use Rattle.abs_state.specs.declared.key.Key.TheVariants as key
use Rattle.abs_state.specs.declared.key.Next.TheVariants.{Into}
use Rattle.abs_state.specs.declared.key.Place.{Place}
use Rattle.abs_state.specs.State.{State}
use Rattle.flow_system.specs.Facts.{fact_at}
use Rattle.flow_system.specs.State.{AllFit, ContainsPiece, IsClosed}
use Rattle.local_facts.specs.Restricted.{IsLeastLocal, IsRestriction, is_listed}
use Rattle.transfer_rules.specs.Closed.{HasCall, HasState, IsTaken}
use Rattle.transfer_rules.specs.Fact.{Piece, is_at_most}
use Rattle.transfer_rules.specs.Family.{Family, Program}
use Rattle.transfer_rules.specs.Give.{Facts, arguments, entered_with, entry_of, gives}
use Rattle.transfer_rules.specs.Lawful.{IsFinerFamily, IsLawfulFamily, IsLawfulProgram, rules_of}
use Rattle.transfer_rules.specs.declared.act.Way.TheVariants.{Onward}
use Rattle.transfer_rules.specs.declared.fact.Fact.{Fact}
use Rattle.transfer_rules.specs.declared.fact.Fact.TheVariants as fact
use Rattle.transfer_rules.specs.declared.step.Step.{Step}
use Rattle.closed_steps.specs.Graph.{Answers}

-- a key of a context's facts: a program point, an edge or a call of the subprogram
abbrev pub is_local : ℕ → Key → Bool
is_local sub (key.Node p) = p.sub == sub
is_local sub (key.Edge p q) = p.sub == sub
is_local sub (key.Call p t) = p.sub == sub
is_local sub (key.Summary q) = false
is_local sub (key.Gap q pc kind) = false

-- the facts of a context, with what is said of subprograms and of gaps beside them
abbrev pub with_others : Facts → Facts → Facts
with_others s x (key.Node p) = s (key.Node p)
with_others s x (key.Edge p q) = s (key.Edge p q)
with_others s x (key.Call p t) = s (key.Call p t)
with_others s x (key.Summary q) = x (key.Summary q)
with_others s x (key.Gap q pc kind) = x (key.Gap q pc kind)

-- a fact is among others, or a greater one
pub record IsAmong (x : Facts) (k : Key) (v : Fact) : Type 0 where
  pub fact : Fact
  pub found : x k ≡ Some fact
  pub above : is_at_most v fact ≡ true

-- Facts of a context: they have the entry with its arguments; they stand at keys of the subprogram that the others have, with
-- greater facts; and they have what their program points give to such keys, with what the others say of subprograms.
pub record IsContext (more : List ℕ) (g : Family) (m : Program) (x : Facts) (sub : ℕ) (args : List Value) (s : Facts) : Type 0 where
  pub fit : AllFit (rules_of more g m) s
  pub enters : HasState s (entry_of sub) (entered_with args)
  pub local : (k : Key) → is_some (s k) ≡ true → is_local sub k ≡ true
  pub below : (k : Key) (v : Fact) → s k ≡ Some v → IsAmong x k v
  pub given : (p : Place) (k : Key) (v : Fact) → is_some (s (key.Node p)) ≡ true → Contains (gives g m (key.Node p) (with_others s x)) (k, v)
      → is_local sub k ≡ true → is_some (x k) ≡ true → IsAmong s k v

-- the kept keys are those of the subprogram that the facts have, and what is fixed is what they say of subprograms
pub record IsKept (x : Facts) (sub : ℕ) (keep : List Key) (fixed : List Piece) : Type 0 where
  pub keeps : (k : Key) → (is_listed compare keep k ≡ true) ↔ ((is_local sub k ≡ true) × (is_some (x k) ≡ true))
  pub summaries : (q : ℕ) → fact_at compare fixed (key.Summary q) ≡ x (key.Summary q)

-- two families, the second over more thresholds, and a program
pub record AreLawful (t more : List ℕ) (f g : Family) (m : Program) : Type 0 where
  pub coarse : IsLawfulFamily t m.widest f
  pub fine : IsLawfulFamily more m.widest g
  pub finer : IsFinerFamily t more f g
  pub program : IsLawfulProgram m

-- The least local map of a context that begins with its entry, over the keys of a closed state, is the facts of the context,
-- where the closed state has the entry with these arguments.
abbrev pub LeastMapsAreContexts : Type 0
LeastMapsAreContexts =
    (t more : List ℕ) (f g : Family) (m : Program) (x : Facts) (sub : ℕ) (args : List Value) (keep : List Key) (fixed : List Piece) (s : Facts)
    → AreLawful t more f g m → IsClosed (rules_of t f m) x → HasState x (entry_of sub) (entered_with args) → IsKept x sub keep fixed
    → IsRestriction compare (rules_of more g m) ((key.Node (entry_of sub), fact.State (entered_with args)) ∷ []) keep fixed
    → IsLeastLocal compare (rules_of more g m) ((key.Node (entry_of sub), fact.State (entered_with args)) ∷ []) keep fixed s
    → IsContext more g m x sub args s

-- the facts of a context answer, with what a closed state says of subprograms and of gaps
abbrev pub ContextsAnswer : Type 0
ContextsAnswer =
    (t more : List ℕ) (f g : Family) (m : Program) (x : Facts) (sub : ℕ) (args : List Value) (s : Facts)
    → AreLawful t more f g m → IsClosed (rules_of t f m) x → IsContext more g m x sub args s → Answers more g m s x

-- what a program point of a context calls: a context of the subprogram whose arguments have those of the call has the entry of
-- the call, and so has the closed state
pub record ContextsEnter : Type 0 where
  pub context : (t more other : List ℕ) (f g h : Family) (m : Program) (x : Facts) (sub target : ℕ) (args theirs : List Value) (s u : Facts)
      (p : Place) (step : Step)
      (before after : State) → AreLawful t more f g m → IsClosed (rules_of t f m) x → IsContext more g m x sub args s → IsContext other h m x target theirs u
      → ((list : List Value) → s (key.Call p target) ≡ Some (fact.Args list) → are_at_most list theirs ≡ true)
      → IsTaken g m s p step Onward before after → p.next ≡ Into target → HasState u (entry_of target) (entered_with (arguments step.depth after))
  pub whole : (t more : List ℕ) (f g : Family) (m : Program) (x : Facts) (sub target : ℕ) (args : List Value) (s : Facts) (p : Place) (step : Step)
      (before after : State) → AreLawful t more f g m → IsClosed (rules_of t f m) x → IsContext more g m x sub args s
      → IsTaken g m s p step Onward before after → p.next ≡ Into target → m.is_stub target ≡ false
      → HasState x (entry_of target) (entered_with (arguments step.depth after))
