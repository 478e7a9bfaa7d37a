use Rattle.value_lattice.proofs.CompareLemmas.{among_more}
use Rattle.value_lattice.proofs.comparing.are_among.Goals as goal

pub loop-word-preserved : goal.loop-word-preserved
loop-word-preserved c = among_more c.args.words.now c.args.set.now c.loop-word.word-index c.loop-word-test.true c.loop-word.invariant
    (c.has.ensures.0 c.if-not-has.false)
