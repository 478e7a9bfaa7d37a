-- Asserted loops that are matched, by the views of due graphs.
use Rattle.std.proofs.Common.{◌≡◌, ◌==◌, ◌⊎◌, ℕ, ◌<◌, Bool, true, List, length, Contains, Option, Some, None, inl, inr, refl, sym, ap, subst, ◌∙◌, arith}
use Rattle.std.specs.Prelude.{is_some}
use Rattle.std.specs.List.{flat_map}
use Rattle.std.specs.List.Sorted.{IsStrictlySortedBy}
use Rattle.std.specs.Map.{keys_of}
use Rattle.std.proofs.lemmas.Bool.{eq-eqb}
use Rattle.std.proofs.lemmas.List.Kept.{IsStrictlySortedBy-filter}
use Rattle.abs_state.specs.Key.{compare}
use Rattle.abs_state.specs.declared.key.Key.TheVariants as key
use Rattle.abs_state.specs.declared.key.Place.{Place}
use Rattle.assert_bind.specs.Binding.{loops as loop_lines}
use Rattle.assert_bind.specs.declared.body.BoundAssertion.{BoundAssertion}
use Rattle.bt_base.specs.Graph.{IsGraph, is_edge}
use Rattle.context_bounds.proofs.Shapes.{HasShape, keys_order, node_there, shape_over, step_there, there_node, there_step}
use Rattle.context_outcomes.specs.Inside.{HasStep, Shape}
use Rattle.context_outcomes.specs.Refusals.{HasTwoEntries, IsHeadOf, IsMatched, IsUnmatched}
use Rattle.context_outcomes.specs.Setting.{Setting}
use Rattle.flow_core.proofs.WritingLemmas.{listed_key}
use Rattle.flow_system.specs.Facts.{fact_at}
use Rattle.flow_system.specs.State.{IsDueGraph}
use Rattle.graph_laws.specs.Nest.{IsReached}
use Rattle.graph_view.proofs.Keyed.{places_rise}
use Rattle.graph_view.proofs.Numbered.{one_number}
use Rattle.graph_view.proofs.Stands.{keys_stand_in_lists}
use Rattle.graph_view.specs.Lists.{place_in}
use Rattle.graph_view.specs.Numbers.{IsNumber, IsStepGraph, place_cmp}
use Rattle.graph_view.specs.Numbers.{HasStep as HasViewStep}
use Rattle.graph_view.specs.Subs.{place_sub}
use Rattle.graph_view.specs.declared.lists.Step.{Step}
use Rattle.graph_view.specs.View.{AreViewed, ByKind, IsViewed, by_kind, nodes_of, steps_of}
use Rattle.loop_lines.proofs.Gathered.{number_there}
use Rattle.loop_lines.proofs.Due.{are_own, entries_are_there, points_are_reached}
use Rattle.loop_lines.proofs.Lists.{IsOf, mapped_is}
use Rattle.loop_lines.proofs.Shapes.{same_places}
use Rattle.loop_lines.specs.Matched.{AreAddresses, IsMatchedIn, IsRooted, Matches, own_of}
use Rattle.loop_lines.specs.Lines.{IsFirstMissingOrNone, IsMissing}
use Rattle.loop_lines.specs.Answer.{IsFirstUnmatchedOrNone}
use Rattle.transfer_fns.specs.Numbers.{AreNumbers}
use Rattle.transfer_fns.specs.Setting.{rules_over}
use Rattle.transfer_rules.specs.Fact.{Piece}
use Rattle.transfer_rules.specs.Give.{Facts, entry_of}

-- the subprograms of the view of a due graph
module _ (t image : List ℕ) (binding : List BoundAssertion) (eight : Bool) (pieces : List Piece) (numbers : AreNumbers t)
    (due : IsDueGraph (rules_over t image binding eight) (fact_at compare pieces)) (viewed : AreViewed (keys_of pieces)) where
  -- the view of their keys
  abbrev view : ByKind
  view = by_kind (keys_of pieces)

  -- the entry of a viewed subprogram is among its own facts
  entry_there : (sub : ℕ) → IsViewed view sub → is_some (own_of pieces sub (key.Node (entry_of sub))) ≡ true
  entry_there sub is =
      let found : IsOf place_sub view.places sub = mapped_is place_sub view.places sub is in
      let node : is_some (fact_at compare pieces (key.Node found.item)) ≡ true =
      listed_key compare keys_order pieces (key.Node found.item) (((keys_stand_in_lists (keys_of pieces)).places found.item).1 found.among) in
      let entry = entries_are_there t image binding eight pieces numbers due found.item node in
      (are_own pieces sub (key.Node (entry_of sub))).1
      (eq-eqb sub sub refl, subst (λ (n : ℕ). is_some (fact_at compare pieces (key.Node (entry_of n))) ≡ true) found.is entry)

  -- and all its program points are reached from there
  pub rooted : (sub : ℕ) → IsStrictlySortedBy place_cmp (nodes_of view sub) → IsViewed view sub → IsRooted view sub
  rooted sub rise is = record {
    entered = there_node pieces sub (own_of pieces sub) (are_own pieces sub) (entry_of sub) (entry_there sub is);
    reached = reached;
  }
    where
      reached : (graph : List (List ℕ)) (entry n : ℕ) → IsGraph graph → IsStepGraph (nodes_of view sub) (steps_of view sub) graph
          → IsNumber (nodes_of view sub) (entry_of sub) entry → n < length graph → IsReached (is_edge graph) entry n
      reached graph entry n made steps begins low =
          let over : HasShape pieces sub (own_of pieces sub) graph =
          shape_over pieces sub (own_of pieces sub) (are_own pieces sub) rise (entry_there sub is) graph made steps in
          let many : length over.shape.nodes ≡ length (nodes_of view sub) = ap (λ (l : List Place). length l) over.nodes in
          let within : n < length over.shape.nodes = omega (arith, low, steps.count, many) in
          let same : over.shape.entry ≡ entry =
          one_number (nodes_of view sub) rise (entry_of sub) over.shape.entry entry
          (subst (λ (l : List Place). IsNumber l (entry_of sub) over.shape.entry) over.nodes over.shape.begins) begins in
          let from : IsReached (is_edge over.shape.graph) over.shape.entry n =
          points_are_reached t image binding eight pieces numbers due viewed sub over.shape n within in
          subst (λ (e : ℕ). IsReached (is_edge graph) e n) same (subst (λ (g : List (List ℕ)). IsReached (is_edge g) over.shape.entry n) over.edges from)

-- the program points of a view rise
pub view_rises : (pieces : List Piece) (sub : ℕ) → AreViewed (keys_of pieces) → IsStrictlySortedBy place_cmp (nodes_of (by_kind (keys_of pieces)) sub)
view_rises pieces sub viewed =
    IsStrictlySortedBy-filter place_cmp (λ (p : Place). place_sub p == sub) (flat_map place_in (keys_of pieces)) (places_rise (keys_of pieces) viewed.rising)

-- a graph of the facts of a subprogram is one of the steps of the view
module _ (pieces : List Piece) (sub : ℕ) (viewed : AreViewed (keys_of pieces)) where
  -- its program points in the view
  abbrev nodes : List Place
  nodes = nodes_of (by_kind (keys_of pieces)) sub

  -- its steps in the view
  abbrev steps : List Step
  steps = steps_of (by_kind (keys_of pieces)) sub

  -- what the facts have of it
  abbrev own : Facts
  own = own_of pieces sub

  -- its program points rise
  rise : IsStrictlySortedBy place_cmp nodes
  rise = view_rises pieces sub viewed

  module _ (shape : Shape own sub) where
    -- the program points of the graph are those of the view
    same : shape.nodes ≡ nodes
    same =
        same_places shape.nodes nodes shape.points.rising rise (λ p has. there_node pieces sub own (are_own pieces sub) p ((shape.points.each p).0 has))
        (λ p has. (shape.points.each p).1 (node_there pieces sub own (are_own pieces sub) p has))

    -- its edges are steps of the view
    has_step : (n m : ℕ) → is_edge shape.graph n m ≡ true → HasViewStep nodes steps n m
    has_step n m edge =
        let step : HasStep own shape.nodes n m = (shape.steps.edges n m).0 edge in
        record {
          step = record { from = step.from; to = step.to };
          among = there_step pieces sub own (are_own pieces sub) step.from step.to step.there;
          leads = record {
            from = subst (λ (l : List Place). IsNumber l step.from n) same step.tail;
            to = subst (λ (l : List Place). IsNumber l step.to m) same step.head;
          };
        }

    -- and the steps of the view are its edges
    step_has : (n m : ℕ) → HasViewStep nodes steps n m → is_edge shape.graph n m ≡ true
    step_has n m found =
        (shape.steps.edges n m).1
        (record {
          from = found.step.from;
          to = found.step.to;
          tail = subst (λ (l : List Place). IsNumber l found.step.from n) (sym same) found.leads.from;
          head = subst (λ (l : List Place). IsNumber l found.step.to m) (sym same) found.leads.to;
          there = step_there pieces sub own (are_own pieces sub) found.step found.among;
        })

    -- so it is a graph of the view's steps
    made : IsStepGraph nodes steps shape.graph
    made = record { count = shape.steps.count ∙ ap (λ (l : List Place). length l) same; has = has_step; all = step_has }

    -- and what matches by it matches in the view
    matched_in : (pc node : ℕ) (place : Place) → IsNumber shape.nodes place node → place.pc ≡ pc → Matches (is_edge shape.graph) shape.entry node
        → IsMatchedIn (by_kind (keys_of pieces)) sub pc
    matched_in pc node place at address matches = record {
      graph = shape.graph;
      is = shape.steps.is;
      steps = made;
      entry = shape.entry;
      begins = subst (λ (l : List Place). IsNumber l (entry_of sub) shape.entry) same shape.begins;
      place = place;
      node = node;
      at = subst (λ (l : List Place). IsNumber l place node) same at;
      address = address;
      matches = matches;
    }

-- a node that matches by a graph of facts
why_of : (facts : Facts) (sub : ℕ) (shape : Shape facts sub) (node : ℕ) → Matches (is_edge shape.graph) shape.entry node
    → IsHeadOf shape node ⊎ HasTwoEntries shape
why_of facts sub shape node (inl head) = inl (record { loops = head.loops; nest = head.nest; head = head.head })
why_of facts sub shape node (inr two) = inr (record { one = two.one; two = two.two; are = two.are })

-- and the other way
of_why : (facts : Facts) (sub : ℕ) (shape : Shape facts sub) (node : ℕ) → IsHeadOf shape node ⊎ HasTwoEntries shape
    → Matches (is_edge shape.graph) shape.entry node
of_why facts sub shape node (inl head) = inl (record { loops = head.loops; nest = head.nest; head = head.head })
of_why facts sub shape node (inr two) = inr (record { one = two.one; two = two.two; are = two.are })

module _ (S : Setting) (viewed : AreViewed (keys_of S.pieces)) where
  -- the view of all keys
  abbrev whole_view : ByKind
  whole_view = by_kind (keys_of S.pieces)

  -- an address that is matched is matched in the view
  pub matched_there : (pc : ℕ) → IsMatched S pc → (sub : ℕ) × IsMatchedIn whole_view sub pc
  matched_there pc one = (
    one.sub,
    matched_in S.pieces one.sub viewed one.shape pc one.node one.place one.is one.address (of_why (own_of S.pieces one.sub) one.sub one.shape one.node one.why),
  )

  -- and one that is matched in the view is matched
  pub there_matched : (sub pc : ℕ) → IsMatchedIn whole_view sub pc → IsMatched S pc
  there_matched sub pc one =
      let entry : Contains (nodes_of whole_view sub) (entry_of sub) = number_there (nodes_of whole_view sub) (entry_of sub) one.entry one.begins in
      let enters = node_there S.pieces sub (own_of S.pieces sub) (are_own S.pieces sub) (entry_of sub) entry in
      let over : HasShape S.pieces sub (own_of S.pieces sub) one.graph =
      shape_over S.pieces sub (own_of S.pieces sub) (are_own S.pieces sub) (view_rises S.pieces sub viewed) enters one.graph one.is one.steps in
      let same : one.entry ≡ over.shape.entry =
      one_number (nodes_of whole_view sub) (view_rises S.pieces sub viewed) (entry_of sub) one.entry over.shape.entry one.begins
      (subst (λ (l : List Place). IsNumber l (entry_of sub) over.shape.entry) over.nodes over.shape.begins) in
      let matches : Matches (is_edge over.shape.graph) over.shape.entry one.node =
      subst (λ (g : List (List ℕ)). Matches (is_edge g) over.shape.entry one.node) (sym over.edges)
      (subst (λ (e : ℕ). Matches (is_edge one.graph) e one.node) same one.matches) in
      record {
        sub = sub;
        shape = over.shape;
        place = one.place;
        node = one.node;
        is = subst (λ (l : List Place). IsNumber l one.place one.node) (sym over.nodes) one.at;
        address = one.address;
        why = why_of (own_of S.pieces sub) sub over.shape one.node matches;
      }

  module _ (addresses : List ℕ) (are : AreAddresses whole_view addresses) where
    -- the listed addresses are matched
    matched : (pc : ℕ) → Contains addresses pc → IsMatched S pc
    matched pc has = let one = are.has pc has in there_matched one.0 pc one.1

    -- and the matched ones are listed
    listed : (pc : ℕ) → IsMatched S pc → Contains addresses pc
    listed pc is = let one = matched_there pc is in are.all one.0 pc one.1

    -- the line of a loop that isn't listed is one that isn't matched
    unmatched : (line : ℕ) → IsMissing (loop_lines S.binding) addresses line → IsUnmatched S line
    unmatched line is = record { one = is.one; among = is.among; at = is.at; unmatched = λ one. is.missing (listed is.one.pc one) }

    -- and the other way
    missing : (line : ℕ) → IsUnmatched S line → IsMissing (loop_lines S.binding) addresses line
    missing line is = record { one = is.one; among = is.among; at = is.at; missing = λ has. is.unmatched (matched is.one.pc has) }

    -- the first loop whose address isn't listed is the first that isn't matched
    pub first_unmatched : (line : Option ℕ) → IsFirstMissingOrNone (loop_lines S.binding) addresses line → IsFirstUnmatchedOrNone S line
    first_unmatched None all = λ one has. matched one.pc (all one has)
    first_unmatched (Some line) first = record { is = unmatched line first.is; least = λ other is. first.least other (missing other is) }
