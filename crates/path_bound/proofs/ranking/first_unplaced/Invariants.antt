use Rattle.std.proofs.Common.{◌<◌, ℕ, get_or}
use Rattle.bt_base.specs.Graph.{is_edge}
use Rattle.path_bound.specs.Places.{loops_in}
use Rattle.path_bound.specs.Ranking.{IsUnplaced}
use Rattle.path_bound.proofs.ranking.first_unplaced.Given as goal

-- the successors gone through are placed, or the edges to them lead back
abbrev pub invariant-loop-next : goal.invariant-loop-next
invariant-loop-next l = (k : ℕ) → k < l.next-index → IsUnplaced (is_edge l.graph) (loops_in l.loops) l.placed l.node (get_or l.next-items k 0) → ⊥
