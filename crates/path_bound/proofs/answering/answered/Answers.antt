use Rattle.std.proofs.Common.{◌+◌, ◌<◌, ℕ, None, length, get_or, ap, ◌∙◌, arith}
use Rattle.path_bound.specs.Capped.{cap}
use Rattle.path_bound.proofs.Followed.{next_falls, next_there}
use Rattle.path_bound.proofs.answering.answered.Goals as goal

pub follow-requires-clause-within : goal.follow-requires-clause-within
follow-requires-clause-within c = λ n m e.
    let w : m < length c.args.graph.now =
    c.requires.nodes m (next_there c.args.order.now None c.args.node.now c.args.steps.now c.args.laps.now c.pass.new.labels c.pass.ensures n m
    e) in
    omega (arith, w, c.requires.sizes.marked, c.pass.auto.labels)

pub follow-requires-clause-falls : goal.follow-requires-clause-falls
follow-requires-clause-falls c = next_falls c.args.order.now None c.args.node.now c.args.steps.now c.args.laps.now c.pass.new.labels c.pass.ensures

pub returns-then-cost-lt-LIMIT : goal.returns-then-cost-lt-LIMIT
returns-then-cost-lt-LIMIT c = record {
  priced = record {
    labels = c.pass.new.labels;
    passed = c.pass.ensures;
    told = c.sum-cost.ensures ∙ ap (λ (x : ℕ). cap (c.args.start + x))
        (c.sum-inner.ensures ∙ ap (λ (x : ℕ). cap (get_or c.args.laps.now c.args.entry 0 + x)) c.cost_at.ensures);
  };
  fits = c.if-cost-lt-LIMIT.true;
  followed = c.in_ok-walk.ensures {u = tt};
}
