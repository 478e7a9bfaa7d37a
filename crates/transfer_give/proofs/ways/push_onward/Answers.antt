use Rattle.std.proofs.Common.{◌++◌, ap, ◌∙◌}
use Rattle.std.proofs.lemmas.Result.{on_ok_weaker}
use Rattle.transfer_give.proofs.Handing.{call_is}
use Rattle.transfer_give.proofs.ways.push_onward.Goals as goal

pub returns-in-Into : goal.returns-in-Into
returns-in-Into g c =
    on_ok_weaker c.push_call.result
    (λ h. h ∙ ap (λ rest. c.args.pieces.now.items ++ rest)
    (call_is (g.F.Transfers.program c.args.f.now) c.args.p c.args.p.next c.in-Into.t c.args.depth c.args.callee c.args.s c.in-Into.is))
    c.push_call.ensures
