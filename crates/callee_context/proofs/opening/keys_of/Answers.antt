use Rattle.std.proofs.Common.{ℕ, ◌<◌, List, Vec, Global, length, Err, Ok, nat_cmp, subst, sym, ap, ◌∙◌}
use Rattle.std.specs.List.Sorted.{IsBinarySearchResult}
use Rattle.std.specs.Map.{keys_of}
use Rattle.callee_context.specs.Program.{setting_in}
use Rattle.plain_bounds.proofs.LookedUp.{entered_found}
use Rattle.plain_bounds.proofs.Own.{own_row}
use Rattle.callee_context.proofs.opening.keys_of.Goals as goal
use Rattle.callee_context.proofs.Calling.{same_number}
use Rattle.abs_state.specs.declared.key.Key.{Key}

pub unreachable-requires : goal.unreachable-requires
unreachable-requires c =
    let h = c.in-Err.ensures {u = tt} in
    entered_found (setting_in c.args.program.now) c.args.program.now.plain.now.subs.items c.args.sub c.in-Err.field-0 c.requires.known.plain.listed
    c.requires.entered
    (subst (λ (list : List ℕ). IsBinarySearchResult (λ y. nat_cmp y c.args.sub) list (Err c.in-Err.field-0)) c.deref.ensures.value h.position)

pub returns : goal.returns
returns c =
    let h = c.in-Ok.ensures {u = tt} in
    let here = subst (λ (list : List ℕ). IsBinarySearchResult (λ y. nat_cmp y c.args.sub) list (Ok c.in-Ok.row)) c.deref.ensures.value h.position in
    (c.in_ok-keys-in-Ok.ensures {u = tt}).items
    ∙ (c.deref-in-Ok.ensures.value
    ∙ (ap (λ (r : Vec Key Global). r.items) (sym c.index-program-row.is)
    ∙ own_row c.args.program.now.plain.now.subs.items (keys_of c.args.program.now.facts.now) c.args.program.now.rows.now c.requires.known.rows c.in-Ok.row
    c.args.sub
    (subst (λ (list : List ℕ). c.in-Ok.row < length list) c.deref.ensures.value h.bound) (sym (same_number _ _ (here c.args.sub))) c.index-program-row.result
    c.index-program-row.is))
