use Rattle.state_rows.proofs.Cells.{cells_over}
use Rattle.state_rows.proofs.joins.join_of.Goals as goal

pub join-requires-clause-left : goal.join-requires-clause-left
join-requires-clause-left c = cells_over c.args.t.now c.args.a.now c.requires.left

pub join-requires-clause-right : goal.join-requires-clause-right
join-requires-clause-right c = cells_over c.args.t.now c.args.b.now c.requires.right
