use Rattle.std.proofs.Common.{◌≡◌, ◌++◌, drop}
use Rattle.wcet_report.proofs.contexts.put_known.Given as goal
use Rattle.wcet_report.specs.Context.{argument_names, known}
use Rattle.wcet_report.specs.Line.{spaced}

-- what is appended so far, and what is still to be appended
abbrev pub invariant-loop-k : goal.invariant-loop-k
invariant-loop-k l =
    l.text.items ++ spaced (known (drop l.k argument_names) (drop l.k l.values))
    ≡ l.initial.text.items ++ spaced (known argument_names l.values)
