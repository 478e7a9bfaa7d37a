use Rattle.std.proofs.Common.{◌≡◌, length, arith, subst}
use Rattle.bt_base.specs.Graph.{is_edge}
use Rattle.turn_sums.specs.Search.{steps_of}
use Rattle.turn_sums.proofs.Settled.{CoversWalks, covers_none, covers_more, settled_covered}
use Rattle.turn_sums.proofs.labels.settle.Goals as goal

pub loop-round-init : goal.loop-round-init
loop-round-init c = record {
  found = c.requires.found;
  covers = covers_none (is_edge c.args.graph.now) c.args.head (steps_of c.args.ups.now c.args.downs.now) c.args.labels.now c.requires.found;
}

pub loop-round-preserved : goal.loop-round-preserved
loop-round-preserved c = record {
  found = c.relax_all.ensures.found;
  covers = covers_more (is_edge c.args.graph.now) c.args.head
      (steps_of c.args.ups.now c.args.downs.now) c.loop-round.labels c.relax_all.new.labels c.loop-round._round
      c.relax_all.ensures.answered c.relax_all.ensures.lower c.loop-round.invariant.covers;
}

pub returns-clause-settled : goal.returns-clause-settled
returns-clause-settled c =
    let all : c.loop-round._round ≡ length c.args.graph.now =
    omega (arith, c.loop-round-test.false, c.loop-round.auto._round-end, c.count-count.ensures.count) in
    settled_covered (is_edge c.args.graph.now) c.args.head (steps_of c.args.ups.now c.args.downs.now)
    (length c.args.graph.now) c.count-count.ensures.graph.within c.requires.balanced c.loop-round.labels
    c.loop-round.invariant.found (subst (CoversWalks (is_edge c.args.graph.now) c.args.head
    (steps_of c.args.ups.now c.args.downs.now) c.loop-round.labels) all c.loop-round.invariant.covers)
