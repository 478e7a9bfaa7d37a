-- The facts of a context, and its graph.
use Rattle.std.specs.Prelude.{◌≡◌, ℕ, ◌↔◌, true, List, [], ◌∷◌, Contains, length, is_some, Option}
use Rattle.std.specs.List.Sorted.{IsStrictlySortedBy}
use Rattle.std.specs.Option.{option_and_then}
use Rattle.abs_state.specs.Key.{compare}
use Rattle.abs_state.specs.State.{State}
use Rattle.abs_state.specs.declared.key.Key.{Key}
use Rattle.abs_state.specs.declared.key.Key.TheVariants as key
use Rattle.abs_state.specs.declared.key.Place.{Place}
use Rattle.bt_base.specs.Graph.{IsGraph, is_edge}
use Rattle.context_facts.specs.Context.{IsKept}
use Rattle.graph_view.specs.Numbers.{IsNumber, place_cmp}
use Rattle.local_facts.specs.Restricted.{IsLeastLocal, IsRestriction}
use Rattle.transfer_rules.specs.Fact.{Piece, state_in}
use Rattle.transfer_rules.specs.Give.{Facts, entered_with, entry_of}
use Rattle.transfer_rules.specs.declared.fact.Fact.TheVariants as fact
use Rattle.transfer_values.specs.Narrow.{narrowed}
use Rattle.value_lattice.specs.declared.value.Value.{Value}
use Rattle.wcet_report.specs.declared.context.Context.{Context}
use Rattle.context_outcomes.specs.Arguments.{AreArgumentsOf, thresholds_with}
use Rattle.context_outcomes.specs.Setting.{Setting, facts_in, rules_with}

-- where a context begins: at the entry of its subprogram, with its arguments
abbrev pub starts_with : ℕ → List Value → List Piece
starts_with sub args = (key.Node (entry_of sub), fact.State (entered_with args)) ∷ []

-- The facts of a subprogram that is entered with these arguments: over the thresholds that come with them, the least map over
-- the program points, steps and calls that the whole program has of the subprogram, which has the entry with the arguments
-- and what its own points give to such keys, where of all subprograms is said what the whole program says of them.
pub record AreFacts (S : Setting) (sub : ℕ) (args : List Value) (facts : Facts) : Type 0 where
  pub keep : List Key
  pub fixed : List Piece
  pub kept : IsKept (facts_in S) sub keep fixed
  pub apart : IsRestriction compare (rules_with S (thresholds_with S args)) (starts_with sub args) keep fixed
  pub least : IsLeastLocal compare (rules_with S (thresholds_with S args)) (starts_with sub args) keep fixed facts

-- the program points of facts, each once, in their order
pub record AreNodes (facts : Facts) (nodes : List Place) : Type 0 where
  pub rising : IsStrictlySortedBy place_cmp nodes
  pub each : (p : Place) → Contains nodes p ↔ (is_some (facts (key.Node p)) ≡ true)

-- a step of the facts leads from one number to another
pub record HasStep (facts : Facts) (nodes : List Place) (n m : ℕ) : Type 0 where
  pub from : Place
  pub to : Place
  pub tail : IsNumber nodes from n
  pub head : IsNumber nodes to m
  pub there : is_some (facts (key.Edge from to)) ≡ true

-- a graph has the steps of the facts for its edges, by the numbers of their program points
pub record IsGraphOf (facts : Facts) (nodes : List Place) (graph : List (List ℕ)) : Type 0 where
  pub is : IsGraph graph
  pub count : length graph ≡ length nodes
  pub edges : (n m : ℕ) → (is_edge graph n m ≡ true) ↔ HasStep facts nodes n m

-- Facts as a graph that begins at the entry of a subprogram: their program points, each by its number, and their steps.
pub record Shape (facts : Facts) (sub : ℕ) : Type 0 where
  pub nodes : List Place
  pub points : AreNodes facts nodes
  pub graph : List (List ℕ)
  pub steps : IsGraphOf facts nodes graph
  pub entry : ℕ
  pub begins : IsNumber nodes (entry_of sub) entry

-- A context from within: its arguments, its facts, and these as a graph.
pub record Inside (S : Setting) (sub : ℕ) (context : Context) : Type 0 where
  pub args : List Value
  pub arguments : AreArgumentsOf S sub context args
  pub facts : Facts
  pub are : AreFacts S sub args facts
  pub shape : Shape facts sub

-- its edges
abbrev pub edges_of : {S : Setting} {sub : ℕ} {context : Context} → Inside S sub context → ℕ → ℕ → Type 0
edges_of within n m = is_edge within.shape.graph n m ≡ true

-- what is left of the state at a program point where the assertions there hold, if there is one
abbrev pub state_at : Setting → List Value → Facts → Place → Option State
state_at S args facts p = option_and_then (narrowed (thresholds_with S args) S.binding p) (state_in (facts (key.Node p)))
