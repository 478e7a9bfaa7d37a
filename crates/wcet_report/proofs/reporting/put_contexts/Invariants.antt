use Rattle.std.proofs.Common.{map, take}
use Rattle.wcet_report.proofs.reporting.put_contexts.Given as goal
use Rattle.wcet_report.specs.Progress.{PutsEach}
use Rattle.wcet_report.specs.Ranking.{picked}
use Rattle.wcet_report.specs.declared.outcome.Outcome.{Outcome}

-- the lines of the contexts gone through are appended
abbrev pub invariant-loop-rank : goal.invariant-loop-rank
invariant-loop-rank l =
    (d : Outcome) → PutsEach l.image (map (picked l.list d) (take l.rank-index l.order)) l.initial.text.items l.text.items
