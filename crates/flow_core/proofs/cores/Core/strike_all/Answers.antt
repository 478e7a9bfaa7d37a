use Rattle.std.proofs.Common.{[], subst, sym}
use Rattle.flow_core.specs.Core.{IsGood}
use Rattle.flow_core.specs.Writing.{MarksAll}
use Rattle.flow_core.proofs.DriveLemmas.{struck_all_good}
use Rattle.flow_core.proofs.cores.Core.strike_all.Goals as goal

pub returns-clause-good : goal.returns-clause-good
returns-clause-good g c =
    let cmp = g.S.Key.Ord.cmp in
    let m = g.S.System.rules c.args._system.now in
    let i = c.self.inside in
    subst (λ list. IsGood cmp m (record { facts = i.facts; marks = c.mark_all.new.queue; out = list; readers = i.readers; count = i.count; limit = i.limit }))
    (sym c.clear.ensures.items)
    (struck_all_good cmp m (g.met.S.System.lawful c.args._system.now)
    (record { facts = i.facts; marks = i.queue; out = i.out.items; readers = i.readers; count = i.count; limit = i.limit }) c.mark_all.new.queue
    (subst (λ list. MarksAll cmp i.facts list i.queue c.mark_all.new.queue) c.deref.ensures.value c.mark_all.ensures)
    (subst (λ s. IsGood cmp m s) (sym c.self.view_is) c.requires))
