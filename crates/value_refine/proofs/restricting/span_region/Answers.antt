use Rattle.value_lattice.proofs.MayLemmas.{some_least}
use Rattle.value_lattice.specs.Value.{IsBetween}
use Rattle.value_refine.proofs.RefineLemmas.{least_of_either}
use Rattle.value_refine.proofs.restricting.span_region.Goals as goal

pub returns-in_ok-join-in-Some-second : goal.returns-in_ok-join-in-Some-second
returns-in_ok-join-in-Some-second c =
    let first = c.args.region.first in
    let second = c.args.region.second in
    let t = c.args.t.now in
    least_of_either t (IsBetween first.low first.high) (IsBetween second.low second.high) c.in-Some.a c.in-Some-second.b c.in_ok-join-in-Some-second.field-0
    (some_least t (IsBetween first.low first.high) c.in_ok-first.first c.in-Some.a c.in-Some.is c.in_ok-first.ensures)
    (some_least t (IsBetween second.low second.high) c.in_ok-second.second c.in-Some-second.b c.in-Some-second.is c.in_ok-second.ensures)
    c.in_ok-join-in-Some-second.ensures.join
