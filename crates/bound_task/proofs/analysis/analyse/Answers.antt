use Rattle.std.proofs.Common.{subst}
use Rattle.std.specs.Prelude.{IfErr, IfOk}
use Rattle.abs_state.specs.Key.{compare}
use Rattle.flow_core.specs.Refusal.{IsTooBig}
use Rattle.flow_system.specs.Facts.{fact_at}
use Rattle.flow_system.specs.State.{IsDueGraph}
use Rattle.transfer_fns.specs.Setting.{rules_over}
use Rattle.bound_task.proofs.analysis.analyse.Goals as goal

pub answered-requires-clause-due : goal.answered-requires-clause-due
answered-requires-clause-due g c =
    subst (λ s. IfOk c.grow-grown.result (λ closed. IsDueGraph (rules_over s.thresholds s.image s.binding s.eight) (fact_at compare closed)))
    c.system.ensures c.grow-grown.ensures.due

pub answered-requires-clause-nodes : goal.answered-requires-clause-nodes
answered-requires-clause-nodes g c =
    subst (λ s. IfErr c.grow-grown.result (IsTooBig compare (rules_over s.thresholds s.image s.binding s.eight) 131072))
    c.system.ensures c.grow-grown.ensures.nodes
