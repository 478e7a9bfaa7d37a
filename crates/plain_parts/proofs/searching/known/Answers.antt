use Rattle.std.proofs.Common.{◌≡◌, get_or, Err, sym, ap, ◌∙◌}
use Rattle.std.proofs.lemmas.Bool.{false≢true}
use Rattle.std.proofs.lemmas.Map.Lookups.{exact_unsigned}
use Rattle.bt_base.proofs.RisingLists.{search_decides}
use Rattle.plain_parts.proofs.Searched.{known_at, known_other}
use Rattle.plain_parts.proofs.searching.known.Goals as goal
use Rattle.plain_parts.specs.Searched.{known_in}

pub returns-in-Ok : goal.returns-in-Ok
returns-in-Ok c =
    let h = c.in-Ok.ensures {u = tt} in
    let at : get_or c.args.subs.now c.in-Ok.number 0 ≡ c.args.sub = exact_unsigned (get_or c.args.subs.now c.in-Ok.number 0) c.args.sub (h.ok 0) in
    sym (known_at c.args.subs.now c.args.table.now c.in-Ok.number c.requires.rising c.requires.count h.bound)
    ∙ ap (known_in c.args.subs.now c.args.table.now) at

pub returns-in-Err : goal.returns-in-Err
returns-in-Err c =
    let h = c.in-Err.ensures {u = tt} in
    sym (known_other c.args.subs.now c.args.table.now c.args.sub
    (λ there. absurd (false≢true ((search_decides c.args.subs.now c.args.sub (Err c.in-Err.field-0) c.requires.rising h.position).1 there))))
