-- The facts of a context as a graph, by a view of their keys.
use Rattle.std.proofs.Common.{◌≡◌, ◌==◌, ◌↔◌, ℕ, Bool, true, List, Contains, refl}
use Rattle.std.specs.Prelude.{is_some}
use Rattle.std.specs.List.{flat_map}
use Rattle.std.specs.List.Sorted.{IsStrictlySortedBy}
use Rattle.std.specs.Map.{keys_of}
use Rattle.abs_state.proofs.KeyLemmas.{keys_are_ordered}
use Rattle.abs_state.specs.Key.{compare}
use Rattle.abs_state.specs.declared.key.Key.{Key}
use Rattle.abs_state.specs.declared.key.Key.TheVariants as key
use Rattle.abs_state.specs.declared.key.Place.{Place}
use Rattle.bt_base.specs.Graph.{IsGraph, is_edge}
use Rattle.context_bounds.specs.Laws.{ViewsAreShapes}
use Rattle.context_facts.specs.Context.{is_local}
use Rattle.context_outcomes.specs.Inside.{AreNodes, HasStep, IsGraphOf, Shape}
use Rattle.flow_core.proofs.WritingLemmas.{key_listed, listed_key}
use Rattle.flow_system.specs.Facts.{fact_at}
use Rattle.flow_system.specs.Laws.{OrdersKeys}
use Rattle.graph_view.proofs.Filling.{filter_from}
use Rattle.graph_view.proofs.Keyed.{filter_to, filter_true}
use Rattle.graph_view.proofs.Stands.{has_from, has_to, keys_stand_in_lists}
use Rattle.graph_view.specs.Lists.{place_in, step_in}
use Rattle.graph_view.specs.Numbers.{HasStep as HasViewStep, IsStepGraph, place_cmp}
use Rattle.graph_view.specs.Subs.{place_sub, step_sub}
use Rattle.graph_view.specs.View.{by_kind, nodes_of, steps_of}
use Rattle.graph_view.specs.declared.lists.Step.{Step}
use Rattle.transfer_rules.specs.Fact.{Piece}
use Rattle.transfer_rules.specs.Give.{Facts, entry_of}
use Rattle.context_bounds.proofs.Reached.{numbered}

-- the order of keys is total and exact
pub keys_order : OrdersKeys compare
keys_order = record { total = keys_are_ordered.total; exact = keys_are_ordered.exact }

-- facts are what pieces have of a subprogram
abbrev pub AreOwn : List Piece → ℕ → Facts → Type 0
AreOwn pieces sub s = (k : Key) → (is_some (s k) ≡ true) ↔ ((is_local sub k ≡ true) × (is_some (fact_at compare pieces k) ≡ true))

-- they are a graph, by the program points of a view and by its graph
pub record HasShape (pieces : List Piece) (sub : ℕ) (s : Facts) (graph : List (List ℕ)) : Type 0 where
  pub shape : Shape s sub
  -- the program points that a view shows
  pub nodes : shape.nodes ≡ nodes_of (by_kind (keys_of pieces)) sub
  pub edges : shape.graph ≡ graph

module _ (pieces : List Piece) (sub : ℕ) (s : Facts) (own : AreOwn pieces sub s) where
  abbrev nodes : List Place
  nodes = nodes_of (by_kind (keys_of pieces)) sub

  -- the steps that it shows
  abbrev steps : List Step
  steps = steps_of (by_kind (keys_of pieces)) sub

  -- whether a program point is the subprogram's
  abbrev is_node : Place → Bool
  is_node q = place_sub q == sub

  -- whether a step is
  abbrev is_step : Step → Bool
  is_step step = step_sub step == sub

  -- the program points of the view are those of the facts
  pub node_there : (p : Place) → Contains nodes p → is_some (s (key.Node p)) ≡ true
  node_there p has =
      let among : Contains (flat_map place_in (keys_of pieces)) p =
      has_to (flat_map place_in (keys_of pieces)) p (filter_from is_node (flat_map place_in (keys_of pieces)) p (has_from nodes p has)) in
      let there = listed_key compare keys_order pieces (key.Node p) (((keys_stand_in_lists (keys_of pieces)).places p).1 among) in
      (own (key.Node p)).1 (filter_true is_node (flat_map place_in (keys_of pieces)) p (has_from nodes p has), there)

  -- and those of the facts are the view's
  pub there_node : (p : Place) → is_some (s (key.Node p)) ≡ true → Contains nodes p
  there_node p there =
      let both = (own (key.Node p)).0 there in
      let among : Contains (flat_map place_in (keys_of pieces)) p =
      ((keys_stand_in_lists (keys_of pieces)).places p).0 (key_listed compare keys_order pieces (key.Node p) both.1) in
      has_to nodes p (filter_to is_node (flat_map place_in (keys_of pieces)) p both.0 (has_from (flat_map place_in (keys_of pieces)) p among))

  -- and so are its steps
  pub step_there : (step : Step) → Contains steps step → is_some (s (key.Edge step.from step.to)) ≡ true
  step_there step has =
      let among : Contains (flat_map step_in (keys_of pieces)) step =
      has_to (flat_map step_in (keys_of pieces)) step (filter_from is_step (flat_map step_in (keys_of pieces)) step (has_from steps step has)) in
      let there =
      listed_key compare keys_order pieces (key.Edge step.from step.to) (((keys_stand_in_lists (keys_of pieces)).steps step.from step.to).1 among) in
      (own (key.Edge step.from step.to)).1 (filter_true is_step (flat_map step_in (keys_of pieces)) step (has_from steps step has), there)

  -- and the steps of the facts are the view's
  pub there_step : (p q : Place) → is_some (s (key.Edge p q)) ≡ true → Contains steps (record { from = p; to = q })
  there_step p q there =
      let step : Step = record { from = p; to = q } in
      let both = (own (key.Edge p q)).0 there in
      let among : Contains (flat_map step_in (keys_of pieces)) step =
      ((keys_stand_in_lists (keys_of pieces)).steps p q).0 (key_listed compare keys_order pieces (key.Edge p q) both.1) in
      has_to steps step (filter_to is_step (flat_map step_in (keys_of pieces)) step both.0 (has_from (flat_map step_in (keys_of pieces)) step among))

  -- so the nodes are the program points of the facts
  points : IsStrictlySortedBy place_cmp nodes → AreNodes s nodes
  points rising = record { rising = rising; each = λ p. (node_there p, there_node p) }

  -- and the edges their steps
  edges : (graph : List (List ℕ)) → IsGraph graph → IsStepGraph nodes steps graph → IsGraphOf s nodes graph
  edges graph is made = record { is = is; count = made.count; edges = λ n m. (from n m, back n m) } where
    from : (n m : ℕ) → is_edge graph n m ≡ true → HasStep s nodes n m
    from n m edge =
        let found : HasViewStep nodes steps n m = made.has n m edge in
        record { from = found.step.from; to = found.step.to; tail = found.leads.from; head = found.leads.to; there = step_there found.step found.among }

    back : (n m : ℕ) → HasStep s nodes n m → is_edge graph n m ≡ true
    back n m step =
        made.all n m
        (record {
          step = record { from = step.from; to = step.to };
          among = there_step step.from step.to step.there;
          leads = record { from = step.tail; to = step.head };
        })

  -- so the facts are a graph, with the view's program points and edges
  pub shape_over : IsStrictlySortedBy place_cmp nodes → is_some (s (key.Node (entry_of sub))) ≡ true → (graph : List (List ℕ)) → IsGraph graph
      → IsStepGraph nodes steps graph → HasShape pieces sub s graph
  shape_over rising enters graph is made =
      let found : Contains nodes (entry_of sub) = there_node (entry_of sub) enters in
      record {
        shape = record {
          nodes = nodes;
          points = points rising;
          graph = graph;
          steps = edges graph is made;
          entry = found.0;
          begins = numbered nodes (entry_of sub) found.0 found.1 found.2;
        };
        nodes = refl;
        edges = refl;
      }

-- so it is with the facts of a context
pub views_are_shapes : ViewsAreShapes
views_are_shapes pieces sub local rising enters graph is made =
    let all : AreOwn pieces sub (fact_at compare pieces) = λ k. (λ there. (local k there, there), λ both. both.1) in
    let over : HasShape pieces sub (fact_at compare pieces) graph = shape_over pieces sub (fact_at compare pieces) all rising enters graph is made in
    record { shape = over.shape; nodes = over.nodes; edges = over.edges }
