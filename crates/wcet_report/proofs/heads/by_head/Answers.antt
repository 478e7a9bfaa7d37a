use Rattle.std.proofs.Common.{◌≡◌, rules}
use Rattle.std.proofs.lemmas.List.Sorted.{answers_always}
use Rattle.wcet_report.proofs.Joins.{by_head_from}
use Rattle.wcet_report.proofs.heads.by_head.Goals as goal

pub returns : goal.returns
returns c =
    let same : c.in_ok-list.list.items ≡ c.args.loops.now = search rules in
    by_head_from _ _ _ same c.sort_unstable_by_key.ensures.permutation
    (c.sort_unstable_by_key.ensures.sorted (λ each. each.head) (answers_always _ _ _ (λ f a r g called. search rules)))
