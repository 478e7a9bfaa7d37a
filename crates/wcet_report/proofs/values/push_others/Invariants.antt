use Rattle.std.proofs.Common.{◌≡◌, ◌++◌, ◌^◌, drop}
use Rattle.std.specs.List.{filter}
use Rattle.std.specs.Prelude.{nat_lt}
use Rattle.wcet_report.proofs.values.push_others.Given as goal

-- what is appended so far, and what is still to be appended
abbrev pub invariant-loop-word : goal.invariant-loop-word
invariant-loop-word l =
    l.list.items ++ filter (λ w. nat_lt w (2 ^ 31)) (drop l.word-index l.words)
    ≡ l.initial.list.items ++ filter (λ w. nat_lt w (2 ^ 31)) l.words
