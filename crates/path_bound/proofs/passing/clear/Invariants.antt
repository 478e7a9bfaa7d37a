use Rattle.std.proofs.Common.{◌≡◌, ℕ, None, take, length, cond}
use Rattle.bt_base.specs.Graph.{has}
use Rattle.path_bound.specs.Choosing.{label_at}
use Rattle.path_bound.proofs.passing.clear.Given as goal

-- the nodes gone through have no label, and the others theirs
abbrev pub invariant-loop-node : goal.invariant-loop-node
invariant-loop-node l = record {
  size : length l.labels ≡ length l.initial.labels;
  labels : (n : ℕ) → label_at l.labels n ≡ cond (has (take l.node-index l.nodes) n) None (label_at l.initial.labels n);
}
