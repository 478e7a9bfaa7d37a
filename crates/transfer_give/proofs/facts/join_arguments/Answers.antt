use Rattle.std.proofs.Common.{arith}
use Rattle.transfer_give.proofs.Over.{thirteen, values_over}
use Rattle.transfer_give.proofs.facts.join_arguments.Goals as goal

pub join_values-requires-clause-same : goal.join_values-requires-clause-same
join_values-requires-clause-same c =
    omega (arith, thirteen c.args.t.now c.args.a.now c.requires.left, thirteen c.args.t.now c.args.b.now c.requires.right)

pub join_values-requires-clause-left : goal.join_values-requires-clause-left
join_values-requires-clause-left c = values_over c.args.t.now c.args.a.now c.requires.left

pub join_values-requires-clause-right : goal.join_values-requires-clause-right
join_values-requires-clause-right c = values_over c.args.t.now c.args.b.now c.requires.right
