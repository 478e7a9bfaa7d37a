use Rattle.std.proofs.Common.{get_or, refl, sym, ap, ◌∙◌}
use Rattle.std.proofs.lemmas.List.{drop_all}
use Rattle.path_bound.specs.Capped.{cap}
use Rattle.path_bound.specs.Choosing.{label_at, greater, best_of}
use Rattle.path_bound.proofs.Passed.{best_more}
use Rattle.path_bound.proofs.choosing.best.Goals as goal

pub loop-step-init : goal.loop-step-init
loop-step-init c = refl

pub loop-step-preserved : goal.loop-step-preserved
loop-step-preserved c =
    best_more cap c.args.head (λ n. get_or c.args.laps.now n 0)
    (label_at c.args.labels.now) c.loop-step.best c.greater-best.result c.args.steps.now c.loop-step.step-index
    (record { to = 0; cost = 0 }) c.loop-step-test.true (c.greater-best.ensures ∙ ap (λ o. greater c.loop-step.best o) c.asked.ensures)
    ∙ c.loop-step.invariant

pub returns : goal.returns
returns c =
    sym (ap (λ s. best_of cap c.args.head (λ n. get_or c.args.laps.now n 0) (label_at c.args.labels.now) c.loop-step.best s)
    (drop_all c.loop-step.step-index c.args.steps.now c.loop-step-test.false))
    ∙ c.loop-step.invariant
