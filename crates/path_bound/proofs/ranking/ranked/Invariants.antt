use Rattle.std.proofs.Common.{◌≡◌, false, length, take}
use Rattle.bt_base.specs.Graph.{has, is_edge}
use Rattle.path_bound.specs.Places.{loops_in}
use Rattle.path_bound.specs.Ranking.{IsRanking}
use Rattle.path_bound.proofs.ranking.ranked.Given as goal

-- those that wait for the first nodes of the order were woken
abbrev pub invariant-loop-place : goal.invariant-loop-place
invariant-loop-place l = record {
  placed : length l.ranking.placed.items ≡ length l.graph;
  waiting : length l.ranking.waiting.items ≡ length l.graph;
  ranking : IsRanking (is_edge l.graph) (loops_in l.loops) (length l.graph) (has l.nodes) (take l.place l.order.items)
      (λ _. false) l.order.items l.ranking.placed.items l.ranking.waiting.items;
}
