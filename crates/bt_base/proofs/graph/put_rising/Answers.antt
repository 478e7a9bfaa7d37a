use Rattle.std.proofs.Common.{Ok, Err, ap, sym, ◌∙◌}
use Rattle.std.proofs.lemmas.List.Sorted.{searched}
use Rattle.bt_base.specs.Graph.{has}
use Rattle.bt_base.proofs.Rows.{has-insert, has-there, rising_apart, rising-insert}
use Rattle.bt_base.proofs.graph.put_rising.Goals as goal

pub returns-in-Ok-clause-numbers : goal.returns-in-Ok-clause-numbers
returns-in-Ok-clause-numbers c =
    let xs = c.args.row.now.items in
    let found = searched xs c.args.number (Ok c.in-Ok.field-0) (rw c.deref.ensures.value at c.in-Ok.ensures.position) (rising_apart xs c.requires) in
    has-there xs c.in-Ok.field-0 c.args.number found.0 found.1

pub returns-in_ok-insert-in-Err-clause-rising : goal.returns-in_ok-insert-in-Err-clause-rising
returns-in_ok-insert-in-Err-clause-rising c =
    let xs = c.args.row.now.items in
    let found = searched xs c.args.number (Err c.in-Err.place) (rw c.deref.ensures.value at c.in-Err.ensures.position) (rising_apart xs c.requires) in
    rw c.in_ok-insert-in-Err.ensures.items (rising-insert xs c.in-Err.place c.args.number c.requires found.0 found.1 found.2)

pub returns-in_ok-insert-in-Err-clause-within : goal.returns-in_ok-insert-in-Err-clause-within
returns-in_ok-insert-in-Err-clause-within c = λ n h.
    sym (has-insert c.args.row.now.items c.in-Err.place c.args.number n)
    ∙ ap (λ l. has l n) (sym c.in_ok-insert-in-Err.ensures.items) ∙ h

pub returns-in_ok-insert-in-Err-clause-numbers : goal.returns-in_ok-insert-in-Err-clause-numbers
returns-in_ok-insert-in-Err-clause-numbers c = λ n.
    ap (λ l. has l n) c.in_ok-insert-in-Err.ensures.items ∙ has-insert c.args.row.now.items c.in-Err.place c.args.number n
