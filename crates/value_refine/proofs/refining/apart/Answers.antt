use Rattle.std.proofs.Common.{arith}
use Rattle.value_refine.proofs.ReachLemmas.{iff_trans, differs_from_one_of, differs_from_the_one}
use Rattle.value_refine.proofs.refining.apart.Goals as goal

pub returns-then-ends : goal.returns-then-ends
returns-then-ends c = λ w word.
    (λ is. differs_from_one_of c.args.right.now c.place_ends-ends.result w c.place_ends-ends.ensures.by c.if-ends.true, λ is. c.all.ensures w word)

pub returns-else-ends : goal.returns-else-ends
returns-else-ends c = λ w word. iff_trans (c.all_but.ensures w word)
    (differs_from_the_one c.args.right.now c.place_ends-ends.result w word c.place_ends-ends.ensures.by (omega arith))
