use Rattle.std.proofs.Common.{◌∙◌, ◌≤◌, ap, subst}
use Rattle.std.specs.Prelude.{IfOk}
use Rattle.abs_state.specs.Key.{compare}
use Rattle.flow_core.specs.Core.{counted_keys}
use Rattle.flow_system.specs.Facts.{fact_at, KeysRise}
use Rattle.flow_system.specs.State.{IsDueGraph}
use Rattle.transfer_fns.specs.Laws.{lawful_over, numbers_are}
use Rattle.transfer_fns.specs.Setting.{program_in}
use Rattle.transfer_values.specs.Family.{family}
use Rattle.value_lattice.specs.Thresholds.{IsThresholds}
use Rattle.bound_task.proofs.Viewed.{keys_are_viewed}
use Rattle.bound_task.specs.Problem.{rules_in}
use Rattle.bound_task.proofs.judging.due_graph.Goals as goal

pub returns-in-Ok-clause-viewed : goal.returns-in-Ok-clause-viewed
returns-in-Ok-clause-viewed c =
    let s = c.args.p.now.system in
    let thresholds = subst IsThresholds (c.thresholds.ensures ∙ ap (λ q. q.thresholds) c.system.ensures) c.are_thresholds.ensures in
    keys_are_viewed s.thresholds (family s.thresholds s.image s.binding) (program_in s.image s.binding s.eight) c.in-Ok.closed
    (lawful_over s.thresholds s.image s.binding s.eight (numbers_are s.thresholds thresholds))
    (subst (KeysRise compare) c.facts.ensures c.len.ensures.rise)
    (subst (λ r. IfOk r (λ closed. IsDueGraph (rules_in c.args.p.now) (fact_at compare closed))) c.in-Ok.is c.requires.due)
    (subst (λ r. IfOk r (λ closed. counted_keys (rules_in c.args.p.now) closed ≤ 131072)) c.in-Ok.is c.requires.within)
