use Rattle.std.proofs.Common.{get_or, arith}
use Rattle.std.proofs.lemmas.List.Elements.{Contains-get_or}
use Rattle.value_lattice.proofs.JoinLemmas.{join_of_sets}
use Rattle.value_lattice.proofs.joining.join_sets.Goals as goal

pub cover_rising-requires-clause-some : goal.cover_rising-requires-clause-some
cover_rising-requires-clause-some c =
    let merge = rw (c.members.ensures.words, c.members-2.ensures.words) at c.in_ok-merged.ensures in
    let first = merge.left (get_or c.args.a.now 0 0) (Contains-get_or c.args.a.now 0 0 c.members.ensures.set.some) in
    omega (arith, first.1)

pub returns : goal.returns
returns c =
    join_of_sets c.args.t.now c.args.a.now c.args.b.now c.in_ok-merged.merged.items c.cover_rising.result
    (rw (c.members.ensures.words, c.members-2.ensures.words) at c.in_ok-merged.ensures) c.cover_rising.ensures
