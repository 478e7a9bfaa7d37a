use Rattle.std.proofs.Common.{refl, arith, ◌-◌}
use Rattle.bt_image.proofs.RisingLemmas.{part_each, part_all}
use Rattle.bt_image.proofs.rising.between.Goals as goal

pub returns-clause-each : goal.returns-clause-each
returns-clause-each c =
    part_each c.below-from.result (c.below-to.result - c.below-from.result) c.args.low c.args.high c.args.numbers.now _ refl (omega arith)
    (λ k le lt. let h = c.below-from.ensures.above k le lt in omega arith) (λ k lt. c.below-to.ensures.below k (omega arith))

pub returns-clause-all : goal.returns-clause-all
returns-clause-all c =
    part_all c.below-from.result (c.below-to.result - c.below-from.result) c.args.low c.args.high c.args.numbers.now _ refl (omega arith)
    (λ k lt. let h = c.below-from.ensures.below k lt in omega arith) (λ k le lt. c.below-to.ensures.above k (omega arith) lt)
