use Rattle.std.proofs.Common.{subst, sym}
use Rattle.flow_core.specs.Core.{IsPart}
use Rattle.flow_core.proofs.PartLemmas.{passed_part}
use Rattle.flow_core.proofs.cores.Core.pass_over.Goals as goal

pub returns-clause-part : goal.returns-clause-part
returns-clause-part g c = λ m law part.
    let i = c.self.inside in
    passed_part g.S.Key.Ord.cmp m law
    (record { facts = i.facts; marks = i.queue; out = i.out.items; readers = i.readers; count = i.count; limit = i.limit }) c.take_least.new.self
    c.take_least.result c.take_least.ensures.unchanged c.take_least.ensures.taken (subst (λ s. IsPart g.S.Key.Ord.cmp m s) (sym c.self.view_is) part)
