use Rattle.std.proofs.Common.{◌^◌, ◌<◌, All, rules, arith}
use Rattle.value_lattice.proofs.SetLemmas.{long_is_wide}
use Rattle.value_lattice.proofs.ValueLemmas.{hull_is_least}
use Rattle.value_lattice.proofs.covering.cover_rising.Goals as goal

pub range_between-requires : goal.range_between-requires
range_between-requires c =
    let fits : All (λ w. w < 2 ^ 32) c.args.words.items = search rules in
    let ends = rw c.as_slice.ensures.value at c.ends_of-low.ensures in
    long_is_wide c.args.words.items c.ends_of-low.result.0 c.ends_of-low.result.1 c.requires.rising fits (omega arith) ends.between

pub returns : goal.returns
returns c =
    let fits : All (λ w. w < 2 ^ 32) c.args.words.items = search rules in
    let ends = rw c.as_slice.ensures.value at c.ends_of-low.ensures in
    hull_is_least c.args.t.now c.args.words.items c.ends_of-low.result.0 c.ends_of-low.result.1 c.range_between.result c.requires.rising fits
    (omega arith) ends.between (search rules) (search rules) ends.least ends.greatest c.range_between.ensures
