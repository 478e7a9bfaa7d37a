use Rattle.std.proofs.Common.{◌≡◌, ◌<◌, ℕ, false}
use Rattle.bt_base.specs.Graph.{is_edge}
use Rattle.turn_sums.specs.Label.{label}
use Rattle.turn_sums.specs.Search.{steps_of, AreFound, AreLower, IsAnswered}
use Rattle.turn_sums.proofs.labels.relax_all.Given as goal

-- the nodes gone through have their answers
abbrev pub invariant-loop-node : goal.invariant-loop-node
invariant-loop-node l = record {
  found : AreFound (is_edge l.graph) l.head (steps_of l.ups l.downs) l.labels;
  lower : AreLower l.initial.labels l.labels;
  answered : (n : ℕ) → n < l.node → IsAnswered (is_edge l.graph) l.head (steps_of l.ups l.downs) l.initial.labels l.labels n;
  same : l.changed ≡ false → (n : ℕ) → label l.labels n ≡ label l.initial.labels n;
}
