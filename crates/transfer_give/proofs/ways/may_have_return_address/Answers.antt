use Rattle.transfer_give.proofs.Cells.{may_past}
use Rattle.transfer_give.proofs.ways.may_have_return_address.Goals as goal

pub returns-then-c-ge48 : goal.returns-then-c-ge48
returns-then-c-ge48 c = may_past c.args.s.now c.args.c c.flags-known.ensures.state.size c.if-c-ge48.true
