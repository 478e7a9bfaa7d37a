use Rattle.transfer_give.proofs.Fits.{stands}
use Rattle.transfer_give.proofs.giving.give.Goals as goal

pub push_node-requires-clause-depth : goal.push_node-requires-clause-depth
push_node-requires-clause-depth g c =
    (stands (g.F.Transfers.thresholds c.args.f.now) (g.F.Transfers.family c.args.f.now)
    (g.F.Transfers.program c.args.f.now) _ c.in-Node.p c.in-Some.s.now c.requires c.in-Some.ensures).depth

pub push_node-requires-clause-over : goal.push_node-requires-clause-over
push_node-requires-clause-over g c =
    (stands (g.F.Transfers.thresholds c.args.f.now) (g.F.Transfers.family c.args.f.now)
    (g.F.Transfers.program c.args.f.now) _ c.in-Node.p c.in-Some.s.now c.requires c.in-Some.ensures).over
