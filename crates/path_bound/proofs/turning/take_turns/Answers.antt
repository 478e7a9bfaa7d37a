use Rattle.std.proofs.Common.{◌≡◌, ℕ, length, get_or, refl, subst, ◌∙◌, arith}
use Rattle.loop_nest.proofs.Lists.{has_at}
use Rattle.path_bound.specs.Turned.{task_of, AreTurnedUpTo}
use Rattle.path_bound.proofs.turning.take_turns.Goals as goal

pub take_head-requires-clause-at : goal.take_head-requires-clause-at
take_head-requires-clause-at c = c.requires.order (get_or c.args.order.now c.loop-at.at-index 0)
    (has_at c.args.order.now c.loop-at.at-index c.loop-at-test.true)

pub loop-at-preserved : goal.loop-at-preserved
loop-at-preserved c =
    let e = c.in_ok-take_head.ensures {u = tt} in
    record {
      sizes = record {
        costs = c.requires.sizes.costs;
        rows = c.requires.sizes.rows;
        within = c.requires.sizes.within;
        lapped = c.take_head.auto.laps ∙ c.loop-at.invariant.sizes.lapped;
        marked = c.take_head.auto.labels ∙ c.loop-at.invariant.sizes.marked;
      };
      turned = e.turns c.loop-at.at-index c.loop-at-test.true refl c.loop-at.invariant.turned;
      ready = e.ready;
      none = e.none;
    }

pub returns-clause-turns : goal.returns-clause-turns
returns-clause-turns c =
    subst (λ (k : ℕ). AreTurnedUpTo (task_of c.args.graph.now c.args.loops.now c.args.bounds.now c.args.costs.now) c.args.loops.now c.args.order.now
    k c.loop-at.laps c.loop-at.turns)
    (let e : c.loop-at.at-index ≡ length c.args.order.now = omega (arith, c.loop-at-test.false, c.loop-at.auto.at-index-end) in e) c.loop-at.invariant.turned
