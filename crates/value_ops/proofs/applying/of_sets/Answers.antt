use Rattle.std.proofs.lemmas.Result.{IfOk-weaker}
use Rattle.value_lattice.specs.Value.{IsLeast, IsBetween}
use Rattle.value_lattice.proofs.ValueLemmas.{least_of_same}
use Rattle.value_ops.specs.Operation.{IsPointwise}
use Rattle.value_ops.proofs.applying.of_sets.Goals as goal

pub returns-in-Some : goal.returns-in-Some
returns-in-Some c =
    let t = c.args.t.now in
    let between = IsBetween c.in-Some.ends.low c.in-Some.ends.high in
    let pairs = IsPointwise c.args.op c.args.xs.now c.args.ys.now in
    IfOk-weaker c.span_of_places.result (IsLeast t between) (IsLeast t pairs)
    (λ v least. least_of_same t between pairs v (λ w word is. (c.in-Some.ensures.same w word).0 is) (λ w word is. (c.in-Some.ensures.same w word).1 is) least)
    c.span_of_places.ensures.least
