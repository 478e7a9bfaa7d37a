use Rattle.std.proofs.Common.{◌≡◌, ◌<◌, ◌+◌, ◌^◌, ℕ, List, length, None, Some, Option, get_or, subst, sym, arith}
use Rattle.graph_view.proofs.Filling.{entry_room, fill_right}
use Rattle.graph_view.proofs.Known.{filled_set, none_at_index}
use Rattle.graph_view.proofs.needs.fill_at.Goals as goal
use Rattle.graph_view.specs.Need.{entry_of, known_need}

pub need_now-requires-clause-small : goal.need_now-requires-clause-small
need_now-requires-clause-small c =
    let count : length c.args.table.now.items ≡ length c.args.subs.now = c.requires.right.count in
    let none : get_or c.args.table.now.items c.args.number None ≡ None =
    none_at_index c.args.table.now.items c.args.number c.index.result.now (omega (arith, count, c.requires.within)) c.index.ensures (c.if-is_some.ensures {u = tt}) in
    subst (λ (t : List (Option ℕ)). (m v : ℕ) → entry_of c.args.subs.now t m ≡ Some v → v + 1 < 2 ^ 32) (sym c.deref.ensures.value)
    (entry_room c.args.places.now c.args.callings.now c.args.subs.now c.requires.counted c.args.table.now.items c.requires.right c.args.number c.requires.within none)

pub returns-in-Some-clause-right : goal.returns-in-Some-clause-right
returns-in-Some-clause-right c =
    let count : length c.args.table.now.items ≡ length c.args.subs.now = c.requires.right.count in
    let none : get_or c.args.table.now.items c.args.number None ≡ None =
    none_at_index c.args.table.now.items c.args.number c.index.result.now (omega (arith, count, c.requires.within)) c.index.ensures (c.if-is_some.ensures {u = tt}) in
    let found : known_need c.args.places.now c.args.callings.now (entry_of c.args.subs.now c.args.table.now.items) (get_or c.args.subs.now c.args.number 0) ≡ Some c.in-Some.need =
    subst (λ (t : List (Option ℕ)). known_need c.args.places.now c.args.callings.now (entry_of c.args.subs.now t) (get_or c.args.subs.now c.args.number 0) ≡ Some c.in-Some.need)
    c.deref.ensures.value (sym (c.in-Some.ensures {u = tt})) in
    fill_right c.args.places.now c.args.callings.now c.args.subs.now c.requires.counted c.args.table.now.items c.requires.right c.args.number c.in-Some.need c.requires.within
    none found

pub returns-in-Some-clause-more : goal.returns-in-Some-clause-more
returns-in-Some-clause-more c = λ yes.
    let count : length c.args.table.now.items ≡ length c.args.subs.now = c.requires.right.count in
    let within : c.args.number < length c.args.table.now.items = omega (arith, count, c.requires.within) in
    filled_set c.args.table.now.items c.args.number c.in-Some.need within
    (none_at_index c.args.table.now.items c.args.number c.index.result.now within c.index.ensures (c.if-is_some.ensures {u = tt}))
