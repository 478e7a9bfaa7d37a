use Rattle.std.proofs.Common.{◌≡◌, inl, inr, arith, subst, ◌∙◌}
use Rattle.std.proofs.lemmas.Bool.{cases_lt}
use Rattle.bt_base.specs.Graph.{is_edge}
use Rattle.turn_sums.specs.Search.{steps_of, IsAnswered}
use Rattle.turn_sums.proofs.Settled.{lower_trans, answered_by, answered_later}
use Rattle.turn_sums.proofs.labels.relax_all.Goals as goal

pub loop-node-preserved : goal.loop-node-preserved
loop-node-preserved c = record {
  found = c.relax_node-changed.ensures.found;
  lower = lower_trans c.args.labels.now c.loop-node.labels c.relax_node-changed.new.labels c.loop-node.invariant.lower c.relax_node-changed.ensures.lower;
  answered = λ n l. elim (cases_lt n c.loop-node.node) [
    | inl k ↦ answered_later (is_edge c.args.graph.now) c.args.head
        (steps_of c.args.ups.now c.args.downs.now) c.args.labels.now c.loop-node.labels c.relax_node-changed.new.labels n
        (c.loop-node.invariant.answered n k) c.relax_node-changed.ensures.lower
    | inr k ↦
        let same : c.loop-node.node ≡ n = omega (arith, l, k) in
        subst (IsAnswered (is_edge c.args.graph.now) c.args.head
        (steps_of c.args.ups.now c.args.downs.now) c.args.labels.now c.relax_node-changed.new.labels) same
        (answered_by (is_edge c.args.graph.now) c.args.head
        (steps_of c.args.ups.now c.args.downs.now) c.args.labels.now c.loop-node.labels c.relax_node-changed.new.labels c.loop-node.node
        c.loop-node.invariant.lower c.relax_node-changed.ensures.answered)
  ];
  same = λ e n. c.relax_node-changed.ensures.same e n ∙ c.loop-node.invariant.same (c.relax_node-changed.ensures.before e) n;
}
