use Rattle.std.proofs.Common.{◌≡◌, ◌++◌, drop}
use Rattle.wcet_report.proofs.values.put_parted.Given as goal
use Rattle.wcet_report.specs.Value.{parted}

-- what is appended so far, and what is still to be appended
abbrev pub invariant-loop-word : goal.invariant-loop-word
invariant-loop-word l =
    l.text.items ++ parted l.separator (drop l.word-index l.words) ≡ l.initial.text.items ++ parted l.before l.words
