use Rattle.std.proofs.Common.{length}
use Rattle.path_bound.specs.Ranking.{IsReady}
use Rattle.path_bound.specs.Turned.{task_of, AreTurnedUpTo}
use Rattle.path_bound.specs.Turning.{NoLabels, AreSized}
use Rattle.path_bound.proofs.turning.take_turns.Given as goal

-- the heads gone through have their turns
abbrev pub invariant-loop-at : goal.invariant-loop-at
invariant-loop-at l = record {
  sizes : AreSized (length l.graph) l.costs.node.items l.steps l.laps l.labels;
  turned : AreTurnedUpTo (task_of l.graph l.loops l.bounds l.costs) l.loops l.order l.at-index l.laps l.turns;
  ready : IsReady (length l.graph) l.ranking;
  none : NoLabels l.labels;
}
