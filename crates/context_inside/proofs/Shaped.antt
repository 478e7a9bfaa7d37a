-- A context's facts with their graph are the context from within.
use Rattle.std.proofs.Common.{◌≡◌, ℕ, ◌<◌, ◌^◌, List, length, Contains, refl, sym, ap, subst, ◌∙◌, arith, get_or, true}
use Rattle.std.specs.Prelude.{Vec, is_some}
use Rattle.std.specs.List.Sorted.{IsStrictlySortedBy}
use Rattle.std.specs.Map.{keys_of}
use Rattle.std.specs.declared.alloc.Global.{Global}
use Rattle.std.proofs.lemmas.List.Elements.{Contains-get_or}
use Rattle.abs_state.specs.Key.{compare}
use Rattle.abs_state.specs.State.{is_state_over}
use Rattle.abs_state.specs.declared.key.Key.TheVariants as key
use Rattle.abs_state.specs.declared.key.Place.{Place}
use Rattle.bt_base.specs.Graph.{IsGraph, is_edge}
use Rattle.context_bounds.proofs.Shapes.{views_are_shapes}
use Rattle.context_bounds.proofs.Viewed.{contexts_are_viewed}
use Rattle.context_bounds.specs.Laws.{IsAllLocal, IsShapeOf}
use Rattle.context_inside.proofs.Contexts.{all_among, all_local, all_reached, all_stand, context_is, shallow, states_over}
use Rattle.context_inside.specs.Laws.{AreDue, IsEnteredWith}
use Rattle.context_inside.specs.Shaped.{IsShaped}
use Rattle.context_inside.specs.Within.{IsWithin}
use Rattle.context_inside.specs.declared.within.Within.{Within}
use Rattle.context_outcomes.specs.Arguments.{thresholds_with}
use Rattle.context_outcomes.specs.Inside.{AreFacts, Shape}
use Rattle.context_outcomes.specs.Setting.{Setting}
use Rattle.flow_system.specs.Facts.{KeysRise, fact_at}
use Rattle.graph_laws.specs.Nest.{IsReached}
use Rattle.graph_view.proofs.Numbered.{one_number}
use Rattle.graph_view.specs.Numbers.{IsNumber, IsStepGraph, place_cmp}
use Rattle.graph_view.specs.View.{AreViewed, by_kind, nodes_of, steps_of}
use Rattle.transfer_rules.specs.Fact.{Piece}
use Rattle.transfer_rules.specs.Give.{Facts, entry_of}
use Rattle.value_lattice.specs.declared.value.Value.{Value}

module _ (pieces : List Piece) (sub : ℕ) (local : IsAllLocal pieces sub) (enters : is_some (fact_at compare pieces (key.Node (entry_of sub))) ≡ true)
    (nodes : Vec Place Global) (graph : List (List ℕ)) (same : nodes.items ≡ nodes_of (by_kind (keys_of pieces)) sub)
    (rise : IsStrictlySortedBy place_cmp nodes.items) (small : length nodes.items < 2 ^ 32) (is : IsGraph graph)
    (steps : IsStepGraph (nodes_of (by_kind (keys_of pieces)) sub) (steps_of (by_kind (keys_of pieces)) sub) graph) where
  -- what the view's graph shows is the graph of the facts
  shown : IsShapeOf pieces sub graph
  shown = views_are_shapes pieces sub local (subst (IsStrictlySortedBy place_cmp) same rise) enters graph is steps

  -- by the same program points
  points : shown.shape.nodes ≡ nodes.items
  points = shown.nodes ∙ sym same

  -- the entry is among the program points
  pub entry_listed : Contains nodes.items (entry_of sub)
  entry_listed =
      subst (λ (ps : List Place). Contains ps (entry_of sub)) points
      (shown.shape.entry, shown.shape.begins.within, shown.shape.begins.is (entry_of sub))

  -- the parts are the facts as a graph
  pub parts_are_shaped : (t : List ℕ) (entry : ℕ) → IsNumber nodes.items (entry_of sub) entry
      → IsShaped pieces sub t (record { facts = pieces; nodes = nodes; graph = graph; entry = entry; thresholds = t })
  parts_are_shaped t entry number = record {
    facts = refl;
    thresholds = refl;
    shape = shown.shape;
    nodes = points;
    graph = shown.edges;
    entry =
        one_number shown.shape.nodes shown.shape.points.rising (entry_of sub) shown.shape.entry entry shown.shape.begins
        (subst (λ (ps : List Place). IsNumber ps (entry_of sub) entry) (sym points) number);
    small = small;
  }

module _ (S : Setting) (sub : ℕ) (args : List Value) (pieces : List Piece) (due : AreDue S) (enters : IsEnteredWith S sub args)
    (are : AreFacts S sub args (fact_at compare pieces)) where
  -- a view can be made of the keys of a context's facts
  pub keys_are_viewed : AreViewed (keys_of S.pieces) → KeysRise compare pieces → AreViewed (keys_of pieces)
  keys_are_viewed viewed rising =
      contexts_are_viewed S.pieces pieces viewed rising (all_among S sub args (fact_at compare pieces) due enters are)
      (all_stand S sub args (fact_at compare pieces) due enters are)

module _ (S : Setting) (sub : ℕ) (args : List Value) (w : Within) (due : AreDue S) (enters : IsEnteredWith S sub args)
    (are : AreFacts S sub args (fact_at compare w.facts)) where
  abbrev facts : Facts
  facts = fact_at compare w.facts

  -- a program point of the context is one of its facts
  point_there : (shape : Shape facts sub) → shape.nodes ≡ w.nodes.items → (i : ℕ) (d : Place) → i < length w.nodes.items
      → is_some (facts (key.Node (get_or w.nodes.items i d))) ≡ true
  point_there shape same i d low =
      (shape.points.each (get_or w.nodes.items i d)).0
      (subst (λ (ps : List Place). Contains ps (get_or w.nodes.items i d)) (sym same) (Contains-get_or w.nodes.items i d low))

  -- each node is reached from the entry
  reached : (shape : Shape facts sub) → shape.graph ≡ w.graph → shape.entry ≡ w.entry → (n : ℕ) → n < length w.graph
      → IsReached (is_edge w.graph) w.entry n
  reached shape same begin n low =
      let many : length shape.graph ≡ length w.graph = ap (λ (rows : List (List ℕ)). length rows) same in
      let count : length shape.graph ≡ length shape.nodes = shape.steps.count in
      subst (λ (e : ℕ). IsReached (is_edge w.graph) e n) begin
      (subst (λ (rows : List (List ℕ)). IsReached (is_edge rows) shape.entry n) same
      (all_reached S sub args facts due enters are shape n (omega (arith, low, many, count))))

  -- its facts with their graph are the context from within
  pub within_from : (t : List ℕ) → t ≡ thresholds_with S args → IsShaped w.facts sub t w → IsWithin S sub args w
  within_from t widened shaped = record {
    facts = are;
    shape = shaped.shape;
    nodes = shaped.nodes;
    graph = shaped.graph;
    entry = shaped.entry;
    thresholds = shaped.thresholds ∙ widened;
    reached = reached shaped.shape shaped.graph shaped.entry;
    rise = subst (IsStrictlySortedBy place_cmp) shaped.nodes shaped.shape.points.rising;
    small = shaped.small;
    depths = λ i d low.
        shallow S sub args facts due enters are (get_or w.nodes.items i d) (point_there shaped.shape shaped.nodes i d low);
    over = λ i d low s found.
        subst (λ (ts : List ℕ). is_state_over ts s ≡ true) (sym (shaped.thresholds ∙ widened))
        (states_over S sub args facts due enters are (get_or w.nodes.items i d) s found);
    local = all_local S sub args facts due enters are;
    among = all_among S sub args facts due enters are;
    stand = all_stand S sub args facts due enters are;
    context = context_is S sub args facts due enters are;
  }

-- so they are, whatever the facts were called before
pub within_of_parts : (S : Setting) (sub : ℕ) (args : List Value) (pieces : List Piece) (w : Within) (t : List ℕ) → AreDue S → IsEnteredWith S sub args
    → AreFacts S sub args (fact_at compare pieces) → t ≡ thresholds_with S args → IsShaped pieces sub t w → IsWithin S sub args w
within_of_parts S sub args pieces w t due enters are widened shaped =
    within_from S sub args w due enters (subst (λ (ps : List Piece). AreFacts S sub args (fact_at compare ps)) (sym shaped.facts) are) t widened
    (subst (λ (ps : List Piece). IsShaped ps sub t w) (sym shaped.facts) shaped)
