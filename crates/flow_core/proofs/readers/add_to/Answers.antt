use Rattle.std.proofs.Common.{◌≡◌, cond, Some, is_eq, ◌∷◌, [], ◌++◌, sym, ap, ◌∙◌}
use Rattle.flow_system.specs.Facts.{fact_at}
use Rattle.flow_core.proofs.ReadersLemmas.{on_err_always, adds_reader, same_readers, set_written, readers_some, readers_none}
use Rattle.flow_core.proofs.readers.add_to.Goals as goal

pub returns-in_err-push-clause-same : goal.returns-in_err-push-clause-same
returns-in_err-push-clause-same g c =
    let cmp = g.K.Ord.cmp in
    let es = c.args.lists.now.entries in
    let w = c.push.new.self in
    let es' = (c.get_mut.follows.lender w).entries in
    on_err_always c.from_residual.result
    (same_readers cmp g.met.K.Ord.total es es' c.args.k w (set_written cmp g.met.K.Ord.total es es' c.args.k c.in-Some.list.now w c.in-Some.ensures.value
    (c.get_mut.follows.holds w).0)
    (c.in_err-push.ensures.items ∙ sym (readers_some cmp es c.args.k c.in-Some.list.now c.in-Some.ensures.value)))

pub returns-in-Some-clause-added : goal.returns-in-Some-clause-added
returns-in-Some-clause-added g c =
    let cmp = g.K.Ord.cmp in
    let es = c.args.lists.now.entries in
    let w = c.push.new.self in
    let es' = (c.get_mut.follows.lender w).entries in
    adds_reader cmp g.met.K.Ord.total es es' c.args.k w
    (set_written cmp g.met.K.Ord.total es es' c.args.k c.in-Some.list.now w c.in-Some.ensures.value (c.get_mut.follows.holds w).0) c.args.reader
    (c.in_ok-push.ensures.items ∙ ap (λ list. list ++ c.args.reader ∷ []) (sym (readers_some cmp es c.args.k c.in-Some.list.now c.in-Some.ensures.value)))

pub returns-clause-added : goal.returns-clause-added
returns-clause-added g c =
    let cmp = g.K.Ord.cmp in
    let es = c.args.lists.now.entries in
    let w = c.push-2.new.self in
    adds_reader cmp g.met.K.Ord.total es c.insert.new.self.entries c.args.k w
    (λ q. c.in_ok-insert.ensures.updates.0 q ∙ ap (λ m. cond (is_eq (cmp c.args.k q)) (Some w) (fact_at cmp m.entries q)) c.get_mut.follows.holds-at-none)
    c.args.reader
    (c.in_ok-push-2.ensures.items ∙ ap (λ list. list ++ c.args.reader ∷ [])
    (c.new-list.ensures.items ∙ sym (readers_none cmp es c.args.k (sym c.in_default.ensures.value))))
