use Rattle.std.proofs.Common.{Contains}
use Rattle.std.proofs.lemmas.Result.{IfOk-weaker}
use Rattle.value_lattice.specs.Value.{IsLeast}
use Rattle.value_ops.specs.Operation.{IsPointwise, results}
use Rattle.value_ops.proofs.PointwiseLemmas.{pointwise_is_least}
use Rattle.value_ops.proofs.pointwise.pointwise.Goals as goal

pub returns : goal.returns
returns c =
    let op = c.args.op in
    let xs = c.args.xs.now in
    let ys = c.args.ys.now in
    IfOk-weaker c.cover.result (IsLeast c.args.t.now (Contains (results op xs ys))) (IsLeast c.args.t.now (IsPointwise op xs ys))
    (λ v least. pointwise_is_least c.args.t.now op xs ys v least)
    (rw (c.as_slice.ensures.value, c.in_ok-results.ensures, c.members.ensures.words, c.members-2.ensures.words) at c.cover.ensures.least)
