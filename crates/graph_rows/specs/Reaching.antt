-- Marks of nodes that are reached.
use Rattle.std.specs.Prelude.{◌≡◌, ℕ, Bool, true, List}
use Rattle.bt_base.specs.Graph.{is_edge}
use Rattle.graph_laws.specs.Nest.{IsReached}
use Rattle.loop_nest.specs.Marks.{marked}

-- each node that is marked is reached from the first
abbrev pub AreMarksOfReached : List (List ℕ) → List Bool → Type 0
AreMarksOfReached graph marks = (n : ℕ) → marked marks n ≡ true → IsReached (is_edge graph) 0 n
