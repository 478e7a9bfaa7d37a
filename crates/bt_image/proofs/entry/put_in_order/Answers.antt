use Rattle.std.proofs.Common.{rules}
use Rattle.std.specs.Ordering.{is_lt}
use Rattle.std.proofs.lemmas.Fn.{always_returns_same}
use Rattle.std.proofs.lemmas.List.Sorted.{Contains-permutation, IsPermutation-sym}
use Rattle.bt_image.specs.Entry.{order}
use Rattle.bt_image.proofs.EntryLemmas.{order_far, order_weak}
use Rattle.bt_image.proofs.entry.put_in_order.Goals as goal

pub returns-clause-order : goal.returns-clause-order
returns-clause-order c =
    let strings = c.args.strings.now in
    order_far strings _ (c.sort_unstable_by.ensures.sorted (λ x y. is_lt (order strings x y)) (order_weak strings)
    (always_returns_same _ _ _ (λ a r q k. search rules)))

pub returns-clause-keeps : goal.returns-clause-keeps
returns-clause-keeps c = λ e has. Contains-permutation _ _ e c.sort_unstable_by.ensures.permutation has

pub returns-clause-adds_none : goal.returns-clause-adds_none
returns-clause-adds_none c = λ e has. Contains-permutation _ _ e (IsPermutation-sym _ _ c.sort_unstable_by.ensures.permutation) has
