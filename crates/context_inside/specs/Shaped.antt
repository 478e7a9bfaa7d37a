-- Facts of a subprogram as a graph, as code has it.
use Rattle.std.specs.Prelude.{◌≡◌, ℕ, ◌<◌, ◌^◌, List, length}
use Rattle.abs_state.specs.Key.{compare}
use Rattle.context_inside.specs.declared.within.Within.{Within}
use Rattle.context_outcomes.specs.Inside.{Shape}
use Rattle.flow_system.specs.Facts.{fact_at}
use Rattle.transfer_rules.specs.Fact.{Piece}

-- these facts and thresholds, and their graph
pub record IsShaped (pieces : List Piece) (sub : ℕ) (t : List ℕ) (w : Within) : Type 0 where
  pub facts : w.facts ≡ pieces
  pub thresholds : w.thresholds ≡ t
  pub shape : Shape (fact_at compare w.facts) sub
  pub nodes : shape.nodes ≡ w.nodes.items
  pub graph : shape.graph ≡ w.graph
  pub entry : shape.entry ≡ w.entry
  pub small : length w.nodes.items < 2 ^ 32
