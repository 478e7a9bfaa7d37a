-- What a due graph has of each subprogram.
use Rattle.std.specs.Prelude.{◌≡◌, ◌<◌, ℕ, Bool, true, List, length, is_some}
use Rattle.std.specs.Map.{keys_of}
use Rattle.abs_state.specs.Key.{compare}
use Rattle.abs_state.specs.declared.key.Key.TheVariants as key
use Rattle.abs_state.specs.declared.key.Place.{Place}
use Rattle.assert_bind.specs.declared.body.BoundAssertion.{BoundAssertion}
use Rattle.bt_base.specs.Graph.{is_edge}
use Rattle.context_outcomes.specs.Inside.{Shape}
use Rattle.flow_system.specs.Facts.{fact_at}
use Rattle.flow_system.specs.State.{IsDueGraph}
use Rattle.graph_laws.specs.Nest.{IsReached}
use Rattle.graph_view.specs.View.{AreViewed}
use Rattle.loop_lines.specs.Matched.{own_of}
use Rattle.transfer_fns.specs.Numbers.{AreNumbers}
use Rattle.transfer_fns.specs.Setting.{rules_over}
use Rattle.transfer_rules.specs.Fact.{Piece}
use Rattle.transfer_rules.specs.Give.{entry_of}

-- of each subprogram of which a due graph has a program point, it has the entry
abbrev pub EntriesAreThere : Type 0
EntriesAreThere =
    (t image : List ℕ) (binding : List BoundAssertion) (eight : Bool) (pieces : List Piece) → AreNumbers t
    → IsDueGraph (rules_over t image binding eight) (fact_at compare pieces) → (p : Place) → is_some (fact_at compare pieces (key.Node p)) ≡ true
    → is_some (fact_at compare pieces (key.Node (entry_of p.sub))) ≡ true

-- each program point that a due graph has of a subprogram is reached from its entry by the subprogram's own steps
abbrev pub PointsAreReached : Type 0
PointsAreReached =
    (t image : List ℕ) (binding : List BoundAssertion) (eight : Bool) (pieces : List Piece) → AreNumbers t
    → IsDueGraph (rules_over t image binding eight) (fact_at compare pieces) → AreViewed (keys_of pieces)
    → (sub : ℕ) (shape : Shape (own_of pieces sub) sub) (n : ℕ) → n < length shape.nodes → IsReached (is_edge shape.graph) shape.entry n
