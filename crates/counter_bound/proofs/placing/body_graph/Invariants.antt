use Rattle.std.proofs.Common.{◌≡◌, ◌<◌, ◌≤◌, ℕ, false, length, get_or}
use Rattle.bt_base.specs.Graph.{is_edge}
use Rattle.counter_bound.proofs.placing.body_graph.Given as goal

-- the nodes gone through have their rows, and the others have none
abbrev pub invariant-loop-place : goal.invariant-loop-place
invariant-loop-place l = record {
  count : length l.small ≡ length l.body;
  done : (i j : ℕ) → i < l.place → i < length l.body → j < length l.body → is_edge l.small i j ≡ is_edge l.graph (get_or l.body i 0) (get_or l.body j 0);
  empty : (i j : ℕ) → l.place ≤ i → is_edge l.small i j ≡ false;
}
