use Rattle.std.proofs.Common.{◌≡◌, ℕ, false, take}
use Rattle.turn_sums.specs.Label.{label, lowered}
use Rattle.turn_sums.proofs.labels.lower_all.Given as goal

-- the labels of the nodes gone through are lowered
abbrev pub invariant-loop-node : goal.invariant-loop-node
invariant-loop-node l = record {
  labels : (n : ℕ) → label l.labels n ≡ lowered (take l.node-index l.nodes) l.head l.sum n (label l.initial.labels n);
  before : l.changed ≡ false → l.before ≡ false;
  same : l.changed ≡ false → (n : ℕ) → label l.labels n ≡ label l.initial.labels n;
}
