use Rattle.path_bound.proofs.Stepped.{ArePlainUpTo}
use Rattle.path_bound.proofs.stepping.plain_rows.Given as goal

-- the nodes gone through have their steps
abbrev pub invariant-loop-at : goal.invariant-loop-at
invariant-loop-at l = ArePlainUpTo l.graph l.node l.at l.rows.items
