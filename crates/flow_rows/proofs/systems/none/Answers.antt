use Rattle.std.proofs.Common.{sym, subst}
use Rattle.abs_state.specs.Key.{compare}
use Rattle.flow_system.specs.Facts.{fact_at}
use Rattle.flow_system.specs.State.{AllFit}
use Rattle.transfer_fns.specs.Setting.{rules_over}
use Rattle.flow_rows.proofs.Facts.{none_fit}
use Rattle.flow_rows.proofs.systems.none.Goals as goal

pub returns : goal.returns
returns c =
    let s = c.args.system.now in
    let m = rules_over s.thresholds s.image s.binding s.eight in
    subst (λ facts. AllFit m (fact_at compare facts)) (sym c.empty.ensures.none) (none_fit m)
