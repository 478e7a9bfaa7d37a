use Rattle.std.proofs.Common.{◌^◌, ◌<◌, get_or, rules, arith}
use Rattle.value_lattice.proofs.EndsLemmas.{ends_none, ends_more, ends_all}
use Rattle.value_lattice.proofs.ends.ends_of.Goals as goal

pub loop-word-init : goal.loop-word-init
loop-word-init c =
    let fits : get_or c.args.words.now 0 0 < 2 ^ 32 = search rules in
    rw c.place-low.ensures (ends_none c.args.words.now c.requires fits)

pub loop-word-preserved : goal.loop-word-preserved
loop-word-preserved c =
    let fits : get_or c.args.words.now c.loop-word.word-index 0 < 2 ^ 32 = search rules in
    rw (c.min-low.ensures, c.max-high.ensures, c.place-here.ensures)
    (ends_more c.args.words.now c.loop-word.word-index c.loop-word.low c.loop-word.high (omega arith) fits c.loop-word.invariant)

pub returns : goal.returns
returns c = ends_all c.args.words.now c.loop-word.word-index c.loop-word.low c.loop-word.high c.loop-word-test.false c.loop-word.invariant
