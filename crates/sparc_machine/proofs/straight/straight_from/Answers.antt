use Rattle.std.proofs.Common.{◌+◌, subst, sym}
use Rattle.sparc_machine.specs.Run.{BoundsRuns}
use Rattle.sparc_machine.proofs.BoundedRuns.{bounded, straight_of, all_straight, whole_cost}
use Rattle.sparc_machine.proofs.straight.straight_from.Goals as goal

pub returns-in-Some-clause-found : goal.returns-in-Some-clause-found
returns-in-Some-clause-found c =
    let before = c.before_return-before.ensures in
    straight_of c.args.image.now c.args.cycles.now c.args.entry _ _ before.few before.passed c.in-Some.ensures.some

pub returns-in-Some-clause-cost : goal.returns-in-Some-clause-cost
returns-in-Some-clause-cost c = whole_cost c.args.image.now c.args.cycles.now c.args.entry _ _ _ c.before_return-before.ensures.cost c.in-Some.ensures.some

pub returns-in-Some-clause-bounds : goal.returns-in-Some-clause-bounds
returns-in-Some-clause-bounds c =
    let before = c.before_return-before.ensures in
    let straight = straight_of c.args.image.now c.args.cycles.now c.args.entry _ _ before.few before.passed c.in-Some.ensures.some in
    let cost = whole_cost c.args.image.now c.args.cycles.now c.args.entry _ _ _ before.cost c.in-Some.ensures.some in
    subst (λ bound. BoundsRuns c.args.image.now c.args.cycles.now c.args.entry (c.before_return-before.result.count + 2) bound) (sym cost)
    (bounded c.args.image.now c.args.cycles.now c.args.entry _ straight)

pub returns-in-None-clause-none : goal.returns-in-None-clause-none
returns-in-None-clause-none c = λ count straight.
    let before = c.before_return-before.ensures in
    c.in-None.ensures.none _ (all_straight c.args.image.now c.args.cycles.now c.args.entry _ count before.few before.passed before.stops straight)
