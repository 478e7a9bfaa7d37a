use Rattle.value_refine.specs.Refinement.{IsWithin}
use Rattle.value_refine.specs.Restriction.{IsRestricted}
use Rattle.value_refine.proofs.RefineLemmas.{answer_of_same}
use Rattle.value_refine.proofs.restricting.within_places.Goals as goal

pub returns-clause-within : goal.returns-clause-within
returns-clause-within c =
    answer_of_same c.args.t.now (IsRestricted c.args.a.now c.of_places.result) (IsWithin c.args.a.now c.args.low c.args.high) c.restrict.result
    (λ w word is. record { has = is.has; between = (c.of_places.ensures w word).0 is.within })
    (λ w word is. record { has = is.has; within = (c.of_places.ensures w word).1 is.between })
    c.restrict.ensures
