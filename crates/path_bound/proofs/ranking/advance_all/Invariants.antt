use Rattle.std.proofs.Common.{◌≡◌, ◌≤◌, ℕ, Bool, true, List, length, take}
use Rattle.bt_base.specs.Graph.{has, is_edge}
use Rattle.path_bound.specs.Places.{loops_in}
use Rattle.path_bound.specs.Ranking.{IsRanking, HasGrown}
use Rattle.path_bound.proofs.ranking.advance_all.Given as goal

-- the first nodes are to be advanced still
abbrev pub invariant-loop-left : goal.invariant-loop-left
invariant-loop-left l = record {
  few : l.left ≤ length l.nodes;
  placed : length l.ranking.placed.items ≡ length l.graph;
  waiting : length l.ranking.waiting.items ≡ length l.graph;
  grown : HasGrown l.initial.order.items l.order.items;
  ranking : (inside : ℕ → Bool) (done : List ℕ) → ((n : ℕ) → has l.nodes n ≡ true → inside n ≡ true)
      → IsRanking (is_edge l.graph) (loops_in l.loops) (length l.graph) inside done
      (has l.nodes) l.initial.order.items l.initial.ranking.placed.items l.initial.ranking.waiting.items
      → IsRanking (is_edge l.graph) (loops_in l.loops) (length l.graph) inside done
      (has (take l.left l.nodes)) l.order.items l.ranking.placed.items l.ranking.waiting.items;
}

abbrev pub decreases-loop-left : goal.decreases-loop-left
decreases-loop-left l = l.left
