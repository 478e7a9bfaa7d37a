use Rattle.std.proofs.Common.{◌∙◌, ap}
use Rattle.bt_command.proofs.Shown.{report_of_outcomes, report_that_holds}
use Rattle.bt_command.proofs.working.report_by.Goals as goal

pub returns-in-Ok-text-clause-report : goal.returns-in-Ok-text-clause-report
returns-in-Ok-text-clause-report g c =
    λ image costs those is.
    report_of_outcomes image costs those c.in-Ok.analysis.outcomes c.in-Ok-text.text.items c.image.result.now (c.in-Ok.ensures.outcomes image costs those is)
    c.in-Ok-text.ensures (c.image.ensures ∙ ap (λ s. s.image) c.system.ensures ∙ is.image_is) c.all_bounded-bounded.result c.all_bounded-bounded.ensures

pub returns-in-Ok-text-clause-holds : goal.returns-in-Ok-text-clause-holds
returns-in-Ok-text-clause-holds g c =
    λ image costs those is.
    report_that_holds image costs those c.in-Ok.analysis.outcomes c.in-Ok-text.text.items c.image.result.now (c.in-Ok.ensures.outcomes image costs those is)
    c.in-Ok-text.ensures (c.image.ensures ∙ ap (λ s. s.image) c.system.ensures ∙ is.image_is) (c.in-Ok.ensures.runs image costs those is)
