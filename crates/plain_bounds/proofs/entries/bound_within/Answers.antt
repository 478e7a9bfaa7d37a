use Rattle.std.proofs.Common.{List, Option, Some, All, map, ap, sym, subst, ℕ, ◌∙◌}
use Rattle.abs_state.specs.declared.key.Place.{Place}
use Rattle.context_bounds.specs.Nodes.{IsTold}
use Rattle.context_bounds.specs.Setting.{setting_of}
use Rattle.plain_bounds.proofs.Shown.{bound_found, bounds_told}
use Rattle.plain_bounds.proofs.entries.bound_within.Goals as goal
use Rattle.plain_parts.specs.Searched.{bound_at}
use Rattle.wcet_report.specs.declared.context.Context.TheVariants.{Plain}

pub answer_of-requires-clause-told : goal.answer_of-requires-clause-told
answer_of-requires-clause-told c =
    subst (λ (list : List (Option ℕ)). All IsTold list) (sym (c.deref-2.ensures.value ∙ c.in_ok-bounds.ensures))
    (bounds_told (setting_of c.args.system.now c.args.cycles.now c.args.whole.now) c.args.subs.now c.args.table.now c.requires.known c.deref.result.now)

pub returns : goal.returns
returns c =
    bound_found (setting_of c.args.system.now c.args.cycles.now c.args.whole.now) c.args.subs.now c.args.table.now c.requires.known c.requires.due
    c.args.sub c.args.within.now
    c.requires.within c.requires.entered c.in_ok-answer.answer.bound
    (c.in_ok-answer.ensures Plain c.requires.within.args (λ p. Some (bound_at c.args.subs.now c.args.table.now p.next)) c.requires.within.plain
    c.requires.within.is
    (sym
    (c.deref-2.ensures.value
    ∙ (c.in_ok-bounds.ensures
    ∙ ap (λ (nodes : List Place). map (λ (p : Place). Some (bound_at c.args.subs.now c.args.table.now p.next)) nodes) c.deref.ensures.value)))).bound
