use Rattle.std.proofs.Common.{arith}
use Rattle.transfer_give.proofs.Over.{thirteen, values_are}
use Rattle.transfer_give.proofs.facts.arguments_at_most.Goals as goal

pub values_at_most-requires-clause-same : goal.values_at_most-requires-clause-same
values_at_most-requires-clause-same c =
    omega (arith, thirteen c.args.t.now c.args.a.now c.requires.left, thirteen c.args.t.now c.args.b.now c.requires.right)

pub values_at_most-requires-clause-left : goal.values_at_most-requires-clause-left
values_at_most-requires-clause-left c = values_are c.args.t.now c.args.a.now c.requires.left

pub values_at_most-requires-clause-right : goal.values_at_most-requires-clause-right
values_at_most-requires-clause-right c = values_are c.args.t.now c.args.b.now c.requires.right
