use Rattle.std.proofs.Common.{subst, sym, ap, ◌∙◌}
use Rattle.flow_core.specs.Core.{IsIdle}
use Rattle.flow_core.proofs.CoreLemmas.{busy_least}
use Rattle.flow_core.proofs.cores.Core.idle.Goals as goal

pub returns-else-is_none : goal.returns-else-is_none
returns-else-is_none g c = (
  λ t. let f = c.if-is_none.false in cc,
  λ idle. absurd (busy_least g.S.Key.Ord.cmp c.self.inside.queue c.least.result c.if-is_none.ensures
      c.least.ensures.least (subst (λ s. IsIdle g.S.Key.Ord.cmp s) (sym c.self.view_is) idle).nothing),
)
