use Rattle.value_ops.specs.Operation.{IsStep, IsTwice}
use Rattle.std.proofs.lemmas.Result.{IfOk-weaker}
use Rattle.value_ops.proofs.applying.twice.Goals as goal

pub returns-clause-twice : goal.returns-clause-twice
returns-clause-twice c =
    IfOk-weaker c.step-2.result (IsStep c.args.t.now c.args.op c.in_ok-between.between c.in_ok-carry.carry)
    (IsTwice c.args.t.now c.args.op c.args.a.now c.args.b.now)
    (λ v second. record { between = c.in_ok-between.between; first = c.in_ok-between.ensures.step; second = rw c.in_ok-carry.ensures at second })
    c.step-2.ensures.step
