use Rattle.std.proofs.Common.{arith, refl, rules}
use Rattle.value_refine.proofs.ReachLemmas.{ends_of_all, ends_of_range}
use Rattle.value_refine.proofs.ends.word_ends.Goals as goal

pub returns-in-Range : goal.returns-in-Range
returns-in-Range c =
    let ends = rw c.in-Range.is at c.place_ends.ensures.ends in
    rw c.in-Range.is (ends_of_range c.in-Range.lo c.in-Range.hi c.place_ends.result c.word_ends_of.result ends c.word_ends_of.ensures (search rules)
    (search rules))

pub returns-in-Ret : goal.returns-in-Ret
returns-in-Ret c =
    rw c.in-Ret.is
    (ends_of_all _ c.all.result (λ w word. (omega (arith, c.all.ensures), omega (arith, c.all.ensures)))
    (record { address = 0; fits = omega arith; has = refl }) (record { address = 4294967295; fits = omega arith; has = refl }) c.all.ensures.0
    c.all.ensures.1)
