use Rattle.std.proofs.Common.{◌∙◌, ap}
use Rattle.bt_command.proofs.Shown.{graph_that_holds}
use Rattle.bt_command.proofs.working.graph_by.Goals as goal

pub returns-in-Ok-graph_text-clause-graph : goal.returns-in-Ok-graph_text-clause-graph
returns-in-Ok-graph_text-clause-graph g c =
    λ image costs those is.
    graph_that_holds image costs those c.in-Ok.analysis.closed c.in-Ok-graph_text.text.items c.image.result.now c.runs_follow_due_graphs.ensures
    is.bound (c.in-Ok.ensures.graph image costs those is) c.in-Ok-graph_text.ensures
    (c.image.ensures ∙ ap (λ s. s.image) c.system.ensures ∙ is.image_is)
