use Rattle.std.proofs.Common.{List, [], ◌∷◌, ◌++◌, get_or, set, sym, ap, ◌∙◌}
use Rattle.abs_state.specs.declared.key.Key.{Key as AnyKey}
use Rattle.context_bounds.proofs.OwnRows.{absent_rows, found_at, not_found, on_ok, put_rows}
use Rattle.context_bounds.proofs.owning.put_key.Goals as goal

pub returns-in-Ok-clause-put : goal.returns-in-Ok-clause-put
returns-in-Ok-clause-put c =
    on_ok c.push_at.result c.push_at.ensures.pushed
    (λ pushed keys same.
    let found = found_at c.args.subs.now c.in-Some.sub c.in-Ok.row c.requires.rising c.in-Ok.ensures.position in
    pushed
    ∙ (ap (λ (rows : List (List AnyKey)). set rows c.in-Ok.row (get_or rows c.in-Ok.row [] ++ c.args.key ∷ [])) same
    ∙ sym (put_rows c.args.subs.now keys c.args.key c.in-Some.sub c.in-Ok.row c.requires.rising (sym c.owner_of.ensures ∙ c.in-Some.is) found.0 found.1)))

pub returns-in-Err-clause-put : goal.returns-in-Err-clause-put
returns-in-Err-clause-put c = λ keys same.
    same
    ∙ sym (absent_rows c.args.subs.now keys c.args.key c.in-Some.sub (sym c.owner_of.ensures ∙ c.in-Some.is)
    (not_found c.args.subs.now c.in-Some.sub c.in-Err.field-0 c.requires.rising c.in-Err.ensures.position))
