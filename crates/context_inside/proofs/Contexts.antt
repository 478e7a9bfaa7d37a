-- The facts of a context whose entry the whole program has with at least its arguments.
use Rattle.std.proofs.Common.{◌≡◌, ℕ, ◌<◌, true, List, Option, Some, None, refl, ap}
use Rattle.std.specs.Prelude.{is_some, length}
use Rattle.std.proofs.lemmas.Bool.{false≢true, ltb-true}
use Rattle.abs_state.specs.State.{State, is_state_over}
use Rattle.abs_state.specs.declared.key.Key.{Key}
use Rattle.abs_state.specs.declared.key.Key.TheVariants as key
use Rattle.abs_state.specs.declared.key.Place.{Place}
use Rattle.bt_base.specs.Graph.{is_edge}
use Rattle.context_bounds.proofs.Marks.{contexts_stand}
use Rattle.context_bounds.proofs.Reached.{contexts_are_reached}
use Rattle.context_bounds.specs.Laws.{stands}
use Rattle.context_facts.proofs.Least.{least_maps_are_contexts}
use Rattle.context_facts.specs.Context.{is_local}
use Rattle.context_inside.proofs.Finer.{lawful}
use Rattle.context_inside.specs.Laws.{AreDue, IsEnteredWith}
use Rattle.context_inside.specs.Within.{IsContextIn}
use Rattle.context_outcomes.specs.Arguments.{thresholds_with}
use Rattle.context_outcomes.specs.Inside.{AreFacts, Shape}
use Rattle.context_outcomes.specs.Setting.{Setting, facts_in, program_of}
use Rattle.graph_laws.specs.Nest.{IsReached}
use Rattle.transfer_rules.proofs.FactKinds.{fitting}
use Rattle.transfer_rules.specs.Give.{Facts, entry_of}
use Rattle.transfer_rules.specs.declared.fact.Fact.{Fact}
use Rattle.transfer_rules.specs.declared.fact.Fact.TheVariants as fact
use Rattle.transfer_values.specs.Family.{family}
use Rattle.value_lattice.specs.declared.value.Value.{Value}

module _ (S : Setting) (sub : ℕ) (args : List Value) (facts : Facts) (due : AreDue S) (enters : IsEnteredWith S sub args) (are : AreFacts S sub args facts) where
  -- they lead on within the subprogram, and are at most those of the whole program
  pub context_is : IsContextIn S sub args facts
  context_is =
      least_maps_are_contexts S.thresholds (thresholds_with S args) (family S.thresholds S.image S.binding) (family (thresholds_with S args) S.image S.binding)
      (program_of S) (facts_in S) sub args are.keep are.fixed facts (lawful S args due.thresholds) due.due.closed enters are.kept are.apart are.least

  -- they have the program points that their steps and calls name
  pub all_stand : (k : Key) → is_some (facts k) ≡ true → stands facts k ≡ true
  all_stand =
      contexts_stand S.thresholds (thresholds_with S args) (family S.thresholds S.image S.binding) (family (thresholds_with S args) S.image S.binding)
      (program_of S) (facts_in S) sub args are.keep are.fixed facts (lawful S args due.thresholds) due.due.closed enters are.kept are.apart are.least

  -- each program point is reached
  pub all_reached : (shape : Shape facts sub) (n : ℕ) → n < length shape.nodes → IsReached (is_edge shape.graph) shape.entry n
  all_reached =
      contexts_are_reached S.thresholds (thresholds_with S args) (family S.thresholds S.image S.binding) (family (thresholds_with S args) S.image S.binding)
      (program_of S) (facts_in S) sub args are.keep are.fixed facts (lawful S args due.thresholds) due.due.closed enters are.kept are.apart are.least

  -- the whole program has all of their keys
  pub all_among : (k : Key) → is_some (facts k) ≡ true → is_some (facts_in S k) ≡ true
  all_among k there = by (facts k) there (λ v found. ap is_some (context_is.below k v found).found) where
    by : (o : Option Fact) → is_some o ≡ true → ((v : Fact) → o ≡ Some v → is_some (facts_in S k) ≡ true) → is_some (facts_in S k) ≡ true
    by None there found = absurd (false≢true there)
    by (Some v) there found = found v refl

  -- they are of the subprogram
  pub all_local : (k : Key) → is_some (facts k) ≡ true → is_local sub k ≡ true
  all_local = context_is.local

  -- and have its entry
  pub entry_there : is_some (facts (key.Node (entry_of sub))) ≡ true
  entry_there = ap is_some context_is.enters.found

  -- its program points are in one of two windows
  pub shallow : (p : Place) → is_some (facts (key.Node p)) ≡ true → p.depth < 2
  shallow p there =
      by (facts (key.Node p)) there
      (λ v found. ltb-true p.depth 2 (fitting (thresholds_with S args) (key.Node p) v (context_is.fit (key.Node p) v found)).depths)
    where
      by : (o : Option Fact) → is_some o ≡ true → ((v : Fact) → o ≡ Some v → p.depth < 2) → p.depth < 2
      by None there found = absurd (false≢true there)
      by (Some v) there found = found v refl

  -- and its states are over its thresholds
  pub states_over : (p : Place) (s : State) → facts (key.Node p) ≡ Some (fact.State s) → is_state_over (thresholds_with S args) s ≡ true
  states_over p s found =
      (fitting (thresholds_with S args) (key.Node p) (fact.State s) (context_is.fit (key.Node p) (fact.State s) found)).over
