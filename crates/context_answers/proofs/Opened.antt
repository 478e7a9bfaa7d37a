-- What a context from within has for its answer.
use Rattle.std.proofs.Common.{◌≡◌, ℕ, ◌<◌, true, List, length, Contains}
use Rattle.std.specs.Prelude.{is_some}
use Rattle.std.specs.List.{flat_map}
use Rattle.std.specs.Map.{keys_of}
use Rattle.abs_state.specs.Key.{compare}
use Rattle.abs_state.specs.declared.key.Key.TheVariants as key
use Rattle.bt_base.specs.Graph.{is_edge}
use Rattle.context_answers.proofs.Answers.{ready_of}
use Rattle.context_answers.proofs.Lists.{among_at, at_number}
use Rattle.context_answers.specs.Answered.{IsOpened}
use Rattle.context_answers.specs.Found.{IsReady}
use Rattle.context_bounds.proofs.Shapes.{keys_order}
use Rattle.context_inside.specs.declared.within.Within.{Within}
use Rattle.context_outcomes.specs.Setting.{Setting, facts_in, view_in}
use Rattle.flow_core.proofs.WritingLemmas.{key_listed}
use Rattle.flow_system.specs.Facts.{fact_at}
use Rattle.graph_laws.proofs.Nests.{leaves}
use Rattle.graph_laws.specs.Scope.{AreFirstEntries}
use Rattle.graph_view.proofs.Keyed.{sub_there}
use Rattle.graph_view.proofs.Stands.{keys_stand_in_lists}
use Rattle.graph_view.specs.Lists.{place_in}
use Rattle.graph_view.specs.View.{IsViewed}
use Rattle.path_bound.proofs.Facts.{edge_from}
use Rattle.transfer_rules.specs.Give.{entry_of}

-- it is ready
pub opened_ready : (S : Setting) (sub : ℕ) (w : Within) → IsOpened S sub w → IsReady w
opened_ready S sub w opened = ready_of S sub opened.args w opened.is

-- its subprogram has a program point
pub opened_viewed : (S : Setting) (sub : ℕ) (w : Within) → IsOpened S sub w → IsViewed (view_in S) sub
opened_viewed S sub w opened =
    let is = opened.is in
    let among : Contains is.shape.nodes (entry_of sub) =
    among_at is.shape.nodes is.shape.entry (entry_of sub) (at_number is.shape.nodes (entry_of sub) is.shape.entry is.shape.begins) in
    let own : is_some (fact_at compare w.facts (key.Node (entry_of sub))) ≡ true = (is.shape.points.each (entry_of sub)).0 among in
    let whole : is_some (facts_in S (key.Node (entry_of sub))) ≡ true = is.among (key.Node (entry_of sub)) own in
    let listed : Contains (flat_map place_in (keys_of S.pieces)) (entry_of sub) =
    ((keys_stand_in_lists (keys_of S.pieces)).places (entry_of sub)).0 (key_listed compare keys_order S.pieces (key.Node (entry_of sub)) whole) in
    sub_there (flat_map place_in (keys_of S.pieces)) (entry_of sub) listed

-- the two entries of a part are nodes
pub entries_low : (graph : List (List ℕ)) (entry x y : ℕ) → AreFirstEntries (is_edge graph) entry x y → (x < length graph) × (y < length graph)
entries_low graph entry x y are =
    let e = are.entries in
    let there = e.two.inside.there in
    let back = e.two.inside.back in
    let a = leaves (is_edge graph) are.heads x y there.between there.walk in
    let b = leaves (is_edge graph) are.heads y x back.between back.walk in
    (edge_from graph x a.0 a.1, edge_from graph y b.0 b.1)
