use Rattle.std.proofs.lemmas.List.Filters.{dedup_is}
use Rattle.std.proofs.lemmas.List.Kept.{Contains-dedup_nat, Contains-from_dedup}
use Rattle.std.proofs.lemmas.List.Sorted.{Contains-permutation, IsPermutation-sym}
use Rattle.std.proofs.lemmas.Map.Keys.{IsStrictlyIncreasing-dedup}
use Rattle.bt_image.proofs.RisingLemmas.{rise_from_steps}
use Rattle.bt_image.proofs.rising.put_in_order.Goals as goal

pub returns-clause-rise : goal.returns-clause-rise
returns-clause-rise c =
    rise_from_steps _ (rw (dedup_is _ _ _ c.dedup.ensures.filtered) (IsStrictlyIncreasing-dedup _ c.sort_unstable.ensures.sorted))

pub returns-clause-keeps : goal.returns-clause-keeps
returns-clause-keeps c = λ k has.
    rw (dedup_is _ _ _ c.dedup.ensures.filtered) (Contains-dedup_nat _ k (Contains-permutation _ _ k c.sort_unstable.ensures.permutation has))

pub returns-clause-adds_none : goal.returns-clause-adds_none
returns-clause-adds_none c = λ k has.
    Contains-permutation _ _ k (IsPermutation-sym _ _ c.sort_unstable.ensures.permutation)
    (Contains-from_dedup _ _ k (rw (dedup_is _ _ _ c.dedup.ensures.filtered) at has))
