-- Contexts from within are one: what is said of one of them holds of each.
use Rattle.std.proofs.Common.{◌≡◌, ℕ, Bool, true, false, List, map, Contains, slice_get, refl, sym, subst}
use Rattle.std.specs.Prelude.{is_some, if◌then◌else◌}
use Rattle.std.specs.Option.{option_and_then}
use Rattle.abs_state.specs.declared.key.Key.TheVariants as key
use Rattle.abs_state.specs.declared.key.Place.{Place}
use Rattle.bt_base.specs.Graph.{is_edge}
use Rattle.graph_laws.specs.Loops.{IsAttained, Loops}
use Rattle.graph_laws.specs.Scope.{AreFirstEntries}
use Rattle.graph_laws.specs.Walk.{Costs}
use Rattle.graph_view.specs.Numbers.{IsNumber}
use Rattle.loop_nest.specs.LoopNest.{IsLoopNest}
use Rattle.loop_nest.specs.declared.natural_loop.Loop.{Loop}
use Rattle.outcome_runs.proofs.Numbering.{one_number}
use Rattle.path_bound.specs.Places.{loops_in}
use Rattle.transfer_rules.specs.Give.{Facts, entry_of}
use Rattle.value_lattice.specs.declared.value.Value.{Value}
use Rattle.wcet_report.specs.declared.context.Context.{Context}
use Rattle.wcet_report.specs.declared.loops.LoopOutcome.{LoopOutcome}
use Rattle.context_outcomes.specs.Bounding.{AreBounded, IsIrreducible, IsUnbounded}
use Rattle.context_outcomes.specs.Counting.{IsCounterOf, change_at}
use Rattle.context_outcomes.specs.Heads.{AreLoopOutcomes, AreLoops, IsLoopOutcome}
use Rattle.context_outcomes.specs.Inside.{AreFacts, HasStep, Inside, state_at}
use Rattle.context_outcomes.specs.Setting.{Setting}
use Rattle.context_outcomes.specs.Spending.{Callees, cost_if, costs_of, place_cost, step_cost}
use Rattle.plain_laws.proofs.OneFacts.{arguments_one, facts_one}
use Rattle.plain_laws.proofs.OneList.{one_list}

-- what a context is, without what shows that it is
pub record Data : Type 0 where
  pub args : List Value
  pub facts : Facts
  pub nodes : List Place
  pub edge : ℕ → ℕ → Bool
  pub entry : ℕ

abbrev pub data_of : {S : Setting} {sub : ℕ} {context : Context} → Inside S sub context → Data
data_of within = record {
  args = within.args;
  facts = within.facts;
  nodes = within.shape.nodes;
  edge = is_edge within.shape.graph;
  entry = within.shape.entry;
}

same_bool : (a b : Bool) → (a ≡ true → b ≡ true) → (b ≡ true → a ≡ true) → a ≡ b
same_bool true b f g = sym (f refl)
same_bool false true f g = g refl
same_bool false false f g = refl

module _ (S : Setting) (sub : ℕ) (context : Context) (one two : Inside S sub context) where
  args_same : one.args ≡ two.args
  args_same = arguments_one S sub context one.args two.args one.arguments two.arguments

  pub facts_same : one.facts ≡ two.facts
  facts_same =
      facts_one S sub two.args one.facts two.facts
      (subst (λ (args : List Value). AreFacts S sub args one.facts) args_same one.are) two.are

  node_there : (p : Place) → Contains one.shape.nodes p → Contains two.shape.nodes p
  node_there p has =
      (two.shape.points.each p).1
      (subst (λ (x : Facts). is_some (x (key.Node p)) ≡ true) facts_same ((one.shape.points.each p).0 has))

  node_back : (p : Place) → Contains two.shape.nodes p → Contains one.shape.nodes p
  node_back p has =
      (one.shape.points.each p).1
      (subst (λ (x : Facts). is_some (x (key.Node p)) ≡ true) (sym facts_same) ((two.shape.points.each p).0 has))

  nodes_same : one.shape.nodes ≡ two.shape.nodes
  nodes_same = one_list one.shape.nodes two.shape.nodes one.shape.points.rising two.shape.points.rising node_there node_back

  step_there : (n m : ℕ) → HasStep one.facts one.shape.nodes n m → HasStep two.facts two.shape.nodes n m
  step_there n m has =
      subst (λ (nodes : List Place). HasStep two.facts nodes n m) nodes_same
      (subst (λ (x : Facts). HasStep x one.shape.nodes n m) facts_same has)

  step_back : (n m : ℕ) → HasStep two.facts two.shape.nodes n m → HasStep one.facts one.shape.nodes n m
  step_back n m has =
      subst (λ (nodes : List Place). HasStep one.facts nodes n m) (sym nodes_same)
      (subst (λ (x : Facts). HasStep x two.shape.nodes n m) (sym facts_same) has)

  edge_same : (n m : ℕ) → is_edge one.shape.graph n m ≡ is_edge two.shape.graph n m
  edge_same n m =
      same_bool (is_edge one.shape.graph n m) (is_edge two.shape.graph n m)
      (λ leads. (two.shape.steps.edges n m).1 (step_there n m ((one.shape.steps.edges n m).0 leads)))
      (λ leads. (one.shape.steps.edges n m).1 (step_back n m ((two.shape.steps.edges n m).0 leads)))

  entry_same : one.shape.entry ≡ two.shape.entry
  entry_same =
      one_number two.shape.nodes two.shape.points.rising (entry_of sub) one.shape.entry two.shape.entry
      (subst (λ (nodes : List Place). IsNumber nodes (entry_of sub) one.shape.entry) nodes_same one.shape.begins) two.shape.begins

  -- two contexts from within are one
  pub data_same : data_of one ≡ data_of two
  data_same = λ i. record {
    args = args_same i;
    facts = facts_same i;
    nodes = nodes_same i;
    edge = λ n m. edge_same n m i;
    entry = entry_same i;
  }

-- what walks through a context cost
abbrev pub costs_at : Setting → Data → Callees → Costs
costs_at S d callees = record {
  node = λ n. cost_if (slice_get d.nodes n) (λ p. place_cost S d.facts (callees p) p);
  edge = λ n m. if d.edge n m then step_cost S.image S.costs (slice_get d.nodes n) (slice_get d.nodes m) else 0;
}

-- what is said of one context is said of another that is the same
module _ (S : Setting) {sub : ℕ} {context : Context} (one two : Inside S sub context) (same : data_of one ≡ data_of two) where
  pub loops_there : (loops : List Loop) → AreLoops one.shape loops → AreLoops two.shape loops
  loops_there loops are = subst (λ (d : Data). IsLoopNest d.edge d.entry loops) same are

  outcome_there : (loops : List Loop) (l : Loop) (o : LoopOutcome) → IsLoopOutcome S one loops l o → IsLoopOutcome S two loops l o
  outcome_there loops l o is = record {
    head = subst (λ (d : Data). IsNumber d.nodes o.head l.head) same is.head;
    counter = is.counter;
    counts =
        subst
        (λ (d : Data). IsCounterOf d.edge (loops_in loops) l.head (map (λ p. change_at S p (state_at S d.args d.facts p)) d.nodes)
        (option_and_then (state_at S d.args d.facts) (slice_get d.nodes l.head)) is.counter) same is.counts;
    by = is.by;
  }

  pub outcomes_there : (loops : List Loop) (outcomes : List LoopOutcome) → AreLoopOutcomes S one loops outcomes → AreLoopOutcomes S two loops outcomes
  outcomes_there loops outcomes are = record {
    count = are.count;
    each = λ k l o at of. outcome_there loops l o (are.each k l o at of);
  }

  pub bounded_there : (loops : List Loop) (bounds : List ℕ) → AreBounded S one loops bounds → AreBounded S two loops bounds
  bounded_there loops bounds are = record {
    nest = loops_there loops are.nest;
    outcomes = are.outcomes;
    each = outcomes_there loops are.outcomes are.each;
    passes = are.passes;
  }

  pub unbounded_there : (head : Place) → IsUnbounded S one head → IsUnbounded S two head
  unbounded_there head is = record {
    loops = is.loops;
    nest = loops_there is.loops is.nest;
    outcomes = is.outcomes;
    each = outcomes_there is.loops is.outcomes is.each;
    there = is.there;
  }

  pub irreducible_there : (p q : Place) → IsIrreducible one p q → IsIrreducible two p q
  irreducible_there p q is = record {
    first = is.first;
    second = is.second;
    at_first = subst (λ (d : Data). IsNumber d.nodes p is.first) same is.at_first;
    at_second = subst (λ (d : Data). IsNumber d.nodes q is.second) same is.at_second;
    are = subst (λ (d : Data). AreFirstEntries d.edge d.entry is.first is.second) same is.are;
  }

  pub attained_there : (loops : Loops) (bound : ℕ → ℕ) (callees : Callees) (cost : ℕ)
      → IsAttained (is_edge one.shape.graph) one.shape.entry loops bound (costs_of S one.shape callees) cost
      → IsAttained (is_edge two.shape.graph) two.shape.entry loops bound (costs_of S two.shape callees) cost
  attained_there loops bound callees cost is = subst (λ (d : Data). IsAttained d.edge d.entry loops bound (costs_at S d callees) cost) same is
