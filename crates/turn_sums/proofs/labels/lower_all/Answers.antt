use Rattle.std.proofs.Common.{◌≡◌, ◌<◌, length, get_or, true, arith, ◌∙◌}
use Rattle.bt_base.specs.Graph.{has}
use Rattle.turn_sums.specs.Label.{label}
use Rattle.turn_sums.proofs.Lists.{has_at}
use Rattle.turn_sums.proofs.Lowered.{lowered_more, lowered_all}
use Rattle.turn_sums.proofs.labels.lower_all.Goals as goal

pub lower_other-changed-requires : goal.lower_other-changed-requires
lower_other-changed-requires c =
    let h : has c.args.nodes.now (get_or c.args.nodes.now c.loop-node.node-index 0) ≡ true =
    has_at c.args.nodes.now c.loop-node.node-index c.loop-node-test.true in
    let l : get_or c.args.nodes.now c.loop-node.node-index 0 < length c.args.labels.now = c.requires (get_or c.args.nodes.now c.loop-node.node-index 0) h in
    omega (arith, l, c.loop-node.auto.labels)

pub loop-node-preserved : goal.loop-node-preserved
loop-node-preserved c = record {
  labels = λ n. lowered_more c.args.nodes.now c.args.head c.args.sum c.loop-node.node-index n (label c.args.labels.now n) (label c.loop-node.labels n)
      (label c.lower_other-changed.new.labels n)
      c.loop-node-test.true (c.loop-node.invariant.labels n) (c.lower_other-changed.ensures.labels n);
  before = λ e. c.loop-node.invariant.before (c.lower_other-changed.ensures.before e);
  same = λ e n. c.lower_other-changed.ensures.same e n ∙ c.loop-node.invariant.same (c.lower_other-changed.ensures.before e) n;
}

pub returns : goal.returns
returns c = record {
  labels = λ n. c.loop-node.invariant.labels n ∙ lowered_all c.args.nodes.now c.args.head c.args.sum c.loop-node.node-index n
      (label c.args.labels.now n) c.loop-node-test.false;
  before = c.loop-node.invariant.before;
  same = c.loop-node.invariant.same;
}
