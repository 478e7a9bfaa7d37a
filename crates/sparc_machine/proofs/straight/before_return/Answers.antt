use Rattle.std.proofs.Common.{arith, ◌∙◌}
use Rattle.sparc_machine.proofs.BoundedRuns.{passed_next, loaded_next, cost_next}
use Rattle.sparc_machine.proofs.straight.before_return.Goals as goal

pub loop-count-preserved : goal.loop-count-preserved
loop-count-preserved c =
    let some = c.in-Some.ensures.some in
    let own = c.cost_behind-spent.ensures in
    let before = c.loop-count.invariant in
    let cost = cost_next c.args.image.now c.args.cycles.now c.args.entry c.loop-count.count c.loop-count.before c.in-Some.instruction some.0 before.loaded in
    record {
      passed = passed_next c.args.image.now c.args.entry c.loop-count.count c.in-Some.instruction before.passed some.0 some.1.0 some.1.1;
      cost = omega (arith, before.cost, own.value, cost);
      loaded = c.loaded-before.ensures ∙ loaded_next c.args.image.now c.args.entry c.loop-count.count c.in-Some.instruction some.0;
      most = omega (arith, before.most, own.most);
    }
