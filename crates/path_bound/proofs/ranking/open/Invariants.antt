use Rattle.std.proofs.Common.{◌≡◌, ℕ, false, take, length, cond}
use Rattle.bt_base.specs.Graph.{has}
use Rattle.path_bound.specs.Ranking.{is_placed}
use Rattle.path_bound.proofs.ranking.open.Given as goal

-- the nodes gone through are to be placed
abbrev pub invariant-loop-node : goal.invariant-loop-node
invariant-loop-node l = record {
  size : length l.placed ≡ length l.initial.placed;
  opened : (n : ℕ) → is_placed l.placed n ≡ cond (has (take l.node-index l.nodes) n) false (is_placed l.initial.placed n);
}
