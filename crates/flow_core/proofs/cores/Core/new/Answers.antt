use Rattle.std.proofs.Common.{subst, ◌∙◌}
use Rattle.flow_core.specs.Absorb.{Absorbs}
use Rattle.flow_core.proofs.CoreLemmas.{new_good, new_pending}
use Rattle.flow_core.proofs.cores.Core.new.Goals as goal

pub absorb-requires-clause-kept : goal.absorb-requires-clause-kept
absorb-requires-clause-kept g c = c.empty-core.ensures.part.kept

pub returns-clause-good : goal.returns-clause-good
returns-clause-good g c =
    let cmp = g.S.Key.Ord.cmp in
    let m = g.S.System.rules c.args.system.now in
    let old = c.empty-core.result in
    new_good cmp m (g.met.S.System.lawful c.args.system.now) old c.absorb.new.self c.in_ok-absorb.field-0 c.empty-core.ensures.facts c.empty-core.ensures.marks
    (subst (λ pieces. Absorbs cmp m old pieces c.absorb.new.self c.in_ok-absorb.field-0) (c.deref.ensures.value ∙ c.in_ok-starts.ensures)
    c.in_ok-absorb.ensures.absorbs)

pub returns-clause-pending : goal.returns-clause-pending
returns-clause-pending g c =
    let cmp = g.S.Key.Ord.cmp in
    let m = g.S.System.rules c.args.system.now in
    let old = c.empty-core.result in
    new_pending cmp m (g.met.S.System.lawful c.args.system.now) old c.absorb.new.self c.in_ok-absorb.field-0 c.empty-core.ensures.facts
    (subst (λ pieces. Absorbs cmp m old pieces c.absorb.new.self c.in_ok-absorb.field-0) (c.deref.ensures.value ∙ c.in_ok-starts.ensures)
    c.in_ok-absorb.ensures.absorbs)
