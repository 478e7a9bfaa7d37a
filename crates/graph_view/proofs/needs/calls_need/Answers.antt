use Rattle.std.proofs.Common.{◌<◌, ◌+◌, ◌^◌, arith, sym}
use Rattle.graph_view.proofs.Known.{shallow_at, sum_fits}
use Rattle.graph_view.proofs.needs.calls_need.Goals as goal

pub overflow_add-from : goal.overflow_add-from
overflow_add-from c =
    let sum : c.from.result + c.in-Some.need < 2 ^ 32 =
    sum_fits c.from.result _ c.in-Some.need c.from.ensures
    (shallow_at c.args.callings.now c.loop-calling.calling-index _ c.requires.shallow c.loop-calling-test.true)
    (c.requires.small _ c.in-Some.need (sym (c.in-Some.ensures {u = tt}))) in
    omega (arith, sum)
