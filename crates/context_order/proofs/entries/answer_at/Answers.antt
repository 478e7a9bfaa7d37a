use Rattle.std.proofs.Common.{◌<◌, List, All, Option, ℕ, length, map, subst, sym, ap, ◌∙◌}
use Rattle.std.specs.Prelude.{IfSome}
use Rattle.std.proofs.lemmas.List.{length-map}
use Rattle.context_answers.proofs.Lists.{get_there, some_same}
use Rattle.context_bounds.specs.Nodes.{IsTold}
use Rattle.context_bounds.specs.Setting.{setting_of}
use Rattle.context_list.specs.Numbered.{One}
use Rattle.context_order.proofs.Linked.{all_told, answered, callees, links_low, mapped, opened_at}
use Rattle.context_order.proofs.Waiting.{waits}
use Rattle.context_order.proofs.entries.answer_at.Goals as goal
use Rattle.context_order.specs.Answered.{IsAnsweredBy}
use Rattle.context_order.specs.Filled.{HasUnknown, IsKnown, bound_by, stands_at}

pub are_known-requires : goal.are_known-requires
are_known-requires c =
    let one = get_there c.args.found.now c.args.number c.requires.within in
    subst (λ (links : List (Option ℕ)). All (λ link. IfSome link (λ number. number < length c.args.table.now)) links) (sym c.deref.ensures.value)
    (links_low (setting_of c.args.system.now c.args.cycles.now c.args.whole.now) c.args.found.now c.args.table.now c.requires.filled one.0
    c.index-opened-number.result
    (opened_at (setting_of c.args.system.now c.args.cycles.now c.args.whole.now) c.args.found.now c.args.opened.now c.requires.opened c.requires.count
    c.args.number c.requires.within c.index-opened-number.result c.index-opened-number.is one.0 one.1))

pub returns-then-not-are_known : goal.returns-then-not-are_known
returns-then-not-are_known c =
    let one = get_there c.args.found.now c.args.number c.requires.within in
    waits (setting_of c.args.system.now c.args.cycles.now c.args.whole.now) c.args.found.now c.args.table.now c.args.number one.0 one.1
    c.index-opened-number.result
    (opened_at (setting_of c.args.system.now c.args.cycles.now c.args.whole.now) c.args.found.now c.args.opened.now c.requires.opened c.requires.count
    c.args.number c.requires.within c.index-opened-number.result c.index-opened-number.is one.0 one.1)
    (subst (λ (links : List (Option ℕ)). HasUnknown c.args.table.now links) c.deref.ensures.value (c.are_known.ensures.unknown c.if-not-are_known.true))

pub bounds_by-requires : goal.bounds_by-requires
bounds_by-requires c =
    let one = get_there c.args.found.now c.args.number c.requires.within in
    subst (λ (links : List (Option ℕ)). All (λ link. IfSome link (λ number. number < length c.args.table.now)) links) (sym c.deref-2.ensures.value)
    (links_low (setting_of c.args.system.now c.args.cycles.now c.args.whole.now) c.args.found.now c.args.table.now c.requires.filled one.0
    c.index-opened-number.result
    (opened_at (setting_of c.args.system.now c.args.cycles.now c.args.whole.now) c.args.found.now c.args.opened.now c.requires.opened c.requires.count
    c.args.number c.requires.within c.index-opened-number.result c.index-opened-number.is one.0 one.1))

pub answer_of-requires-clause-opened : goal.answer_of-requires-clause-opened
answer_of-requires-clause-opened c =
    let is =
    opened_at (setting_of c.args.system.now c.args.cycles.now c.args.whole.now) c.args.found.now c.args.opened.now c.requires.opened c.requires.count
    c.args.number c.requires.within c.index-opened-number.result c.index-opened-number.is c.get.result.now c.get.ensures in
    record { args = is.inside.args; is = is.inside.is }

pub answer_of-requires-clause-count : goal.answer_of-requires-clause-count
answer_of-requires-clause-count c =
    let is =
    opened_at (setting_of c.args.system.now c.args.cycles.now c.args.whole.now) c.args.found.now c.args.opened.now c.requires.opened c.requires.count
    c.args.number c.requires.within c.index-opened-number.result c.index-opened-number.is c.get.result.now c.get.ensures in
    ap length c.deref-3.ensures.value
    ∙ (ap length c.in_ok-bounds.ensures
    ∙ (length-map c.deref-2.result.now (bound_by c.args.table.now) ∙ (ap length c.deref-2.ensures.value ∙ is.links.count)))

pub answer_of-requires-clause-told : goal.answer_of-requires-clause-told
answer_of-requires-clause-told c =
    subst (λ (bounds : List (Option ℕ)). All IsTold bounds) (sym (c.deref-3.ensures.value ∙ c.in_ok-bounds.ensures))
    (all_told (setting_of c.args.system.now c.args.cycles.now c.args.whole.now) c.args.found.now c.args.table.now c.requires.filled c.deref-2.result.now)

pub returns : goal.returns
returns c = λ one at.
    let is =
    opened_at (setting_of c.args.system.now c.args.cycles.now c.args.whole.now) c.args.found.now c.args.opened.now c.requires.opened c.requires.count
    c.args.number c.requires.within c.index-opened-number.result c.index-opened-number.is c.get.result.now c.get.ensures in
    subst
    (λ (o : One).
    IsAnsweredBy (setting_of c.args.system.now c.args.cycles.now c.args.whole.now) c.args.found.now (stands_at c.args.table.now) o c.in_ok-answer.answer)
    (some_same (sym c.get.ensures ∙ at))
    (answered (setting_of c.args.system.now c.args.cycles.now c.args.whole.now) c.args.found.now c.args.table.now c.requires.filled c.get.result.now
    c.index-opened-number.result is
    (subst (λ (links : List (Option ℕ)). All (IsKnown c.args.table.now) links) c.deref.ensures.value (c.are_known.ensures.known c.if-not-are_known.false))
    c.in_ok-answer.answer
    (c.in_ok-answer.ensures c.get.result.now.1 is.inside.args
    (callees (setting_of c.args.system.now c.args.cycles.now c.args.whole.now) c.args.found.now c.args.table.now c.requires.filled c.get.result.now
    c.index-opened-number.result is)
    is.inside.arguments is.inside.is
    (mapped (setting_of c.args.system.now c.args.cycles.now c.args.whole.now) c.args.found.now c.args.table.now c.requires.filled c.get.result.now
    c.index-opened-number.result is
    ∙ sym
    (c.deref-3.ensures.value ∙ (c.in_ok-bounds.ensures ∙ ap (λ (l : List (Option ℕ)). map (bound_by c.args.table.now) l) c.deref-2.ensures.value)))))
