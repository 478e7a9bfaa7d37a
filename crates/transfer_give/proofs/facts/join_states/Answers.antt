use Rattle.transfer_give.proofs.Over.{cells_over}
use Rattle.transfer_give.proofs.facts.join_states.Goals as goal

pub join-requires-clause-left : goal.join-requires-clause-left
join-requires-clause-left c = cells_over c.args.t.now c.args.a.now c.requires.left

pub join-requires-clause-right : goal.join-requires-clause-right
join-requires-clause-right c = cells_over c.args.t.now c.args.b.now c.requires.right
