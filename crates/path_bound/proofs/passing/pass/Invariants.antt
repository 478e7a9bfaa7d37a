use Rattle.path_bound.proofs.Passed.{ArePassedUpTo}
use Rattle.path_bound.proofs.passing.pass.Given as goal

-- the nodes gone through have their labels
abbrev pub invariant-loop-at : goal.invariant-loop-at
invariant-loop-at l = ArePassedUpTo l.order l.head l.node l.steps l.laps l.at-index l.labels
