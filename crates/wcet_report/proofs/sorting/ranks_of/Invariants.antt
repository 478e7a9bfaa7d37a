use Rattle.wcet_report.proofs.sorting.ranks_of.Given as goal
use Rattle.wcet_report.specs.Ranking.{AreRanks}

-- the outcomes gone through have their ranks
abbrev pub invariant-loop-index : goal.invariant-loop-index
invariant-loop-index l = AreRanks l.list l.index l.ranks.items
