use Rattle.std.proofs.Common.{ℕ, List, Err, nat_cmp, subst}
use Rattle.std.specs.List.Sorted.{IsBinarySearchResult}
use Rattle.plain_bounds.proofs.LookedUp.{entered_found}
use Rattle.plain_bounds.proofs.table.PlainBounds.bound_of.Goals as goal

pub unreachable-requires : goal.unreachable-requires
unreachable-requires c =
    let h = c.in-Err.ensures {u = tt} in
    entered_found c.requires.setting c.args.self.now.subs.items c.args.sub c.in-Err.field-0 c.requires.are.listed c.requires.entered
    (subst (λ (list : List ℕ). IsBinarySearchResult (λ y. nat_cmp y c.args.sub) list (Err c.in-Err.field-0)) c.deref.ensures.value h.position)
