use Rattle.std.proofs.Common.{◌≡◌, get_or, Err}
use Rattle.std.proofs.lemmas.Bool.{false≢true}
use Rattle.std.proofs.lemmas.Map.Lookups.{exact_unsigned}
use Rattle.std.proofs.lemmas.Result.{on_ok_weaker}
use Rattle.bt_base.proofs.RisingLists.{search_decides}
use Rattle.plain_parts.proofs.JoinedFacts.{joins_at, joins_nowhere}
use Rattle.plain_parts.proofs.joining.join_given.Goals as goal

pub returns-in-Ok : goal.returns-in-Ok
returns-in-Ok c =
    let h = c.in-Ok.ensures {u = tt} in
    let at : get_or c.args.subs.now c.in-Ok.number 0 ≡ c.args.callee = exact_unsigned (get_or c.args.subs.now c.in-Ok.number 0) c.args.callee (h.ok 0) in
    on_ok_weaker c.join_at.result
    (joins_at c.args.t.now c.are_thresholds.ensures c.args.subs.now c.requires.rising c.args.callee c.args.given.now c.requires.given c.args.table.now.items
    c.requires.count c.requires.all c.in-Ok.number c.join_at.new.table.items h.bound at)
    c.join_at.ensures

pub returns-in-Err : goal.returns-in-Err
returns-in-Err c =
    let h = c.in-Err.ensures {u = tt} in
    joins_nowhere c.args.t.now c.are_thresholds.ensures c.args.subs.now c.requires.rising c.args.callee c.args.given.now c.requires.given c.args.table.now.items
    c.requires.count c.requires.all
    (λ there. absurd (false≢true ((search_decides c.args.subs.now c.args.callee (Err c.in-Err.field-0) c.requires.rising h.position).1 there)))
