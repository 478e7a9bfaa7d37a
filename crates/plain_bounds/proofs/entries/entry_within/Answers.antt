use Rattle.std.proofs.Common.{List, Some, None, Contains, subst, sym}
use Rattle.abs_state.specs.Key.{compare}
use Rattle.abs_state.specs.declared.key.Place.{Place}
use Rattle.assert_bind.specs.declared.body.BoundAssertion.{BoundAssertion}
use Rattle.context_bounds.specs.Setting.{setting_of}
use Rattle.flow_system.specs.Facts.{fact_at}
use Rattle.graph_view.specs.View.{ByKind}
use Rattle.plain_bounds.proofs.Shown.{all_found, open_found, waits_found}
use Rattle.plain_bounds.proofs.entries.entry_within.Goals as goal
use Rattle.plain_parts.specs.Entered.{IsBoundedAt, SomeEnters}

pub bound_within-requires-clause-entered : goal.bound_within-requires-clause-entered
bound_within-requires-clause-entered c =
    all_found (setting_of c.args.system.now c.args.cycles.now c.args.whole.now) c.args.subs.now c.args.table.now c.requires.known c.requires.due c.args.sub
    c.args.within.now
    c.requires.within
    (λ p has.
    subst (λ (v : ByKind). IsBoundedAt c.args.system.now.binding v.callings c.args.subs.now c.args.table.now c.args.sub
    (fact_at compare c.args.within.now.facts) p)
    c.requires.view
    (subst (λ (b : List BoundAssertion). IsBoundedAt b c.args.view.now.callings c.args.subs.now c.args.table.now c.args.sub
    (fact_at compare c.args.within.now.facts) p)
    c.binding.ensures
    (c.in-Bounded.ensures {u = tt} p (subst (λ (nodes : List Place). Contains nodes p) (sym c.deref.ensures.value) has))))

pub returns-in-Waits : goal.returns-in-Waits
returns-in-Waits c =
    waits_found (setting_of c.args.system.now c.args.cycles.now c.args.whole.now) c.args.subs.now c.args.table.now c.requires.known c.requires.due
    c.args.sub c.args.within.now
    c.requires.within
    (subst (λ (v : ByKind). SomeEnters c.args.system.now.binding v.callings c.args.subs.now c.args.table.now c.args.sub
    (fact_at compare c.args.within.now.facts) None)
    c.requires.view
    (subst (λ (b : List BoundAssertion). SomeEnters b c.args.view.now.callings c.args.subs.now c.args.table.now c.args.sub
    (fact_at compare c.args.within.now.facts) None)
    c.binding.ensures (c.in-Waits.ensures {u = tt})))

pub returns-in-Open : goal.returns-in-Open
returns-in-Open c =
    open_found (setting_of c.args.system.now c.args.cycles.now c.args.whole.now) c.args.subs.now c.args.table.now c.requires.known c.requires.due
    c.args.sub c.args.within.now
    c.requires.within
    (subst
    (λ (v : ByKind). SomeEnters c.args.system.now.binding v.callings c.args.subs.now c.args.table.now c.args.sub (fact_at compare c.args.within.now.facts)
    (Some None))
    c.requires.view
    (subst
    (λ (b : List BoundAssertion). SomeEnters b c.args.view.now.callings c.args.subs.now c.args.table.now c.args.sub
    (fact_at compare c.args.within.now.facts) (Some None))
    c.binding.ensures (c.in-Open.ensures {u = tt})))
