use Rattle.bt_base.specs.Graph.{is_edge}
use Rattle.counter_bound.specs.Counts.{IsBestOrNone}
use Rattle.path_bound.specs.Places.{loops_in}
use Rattle.counter_bound.proofs.bounding.best_of.Given as goal

-- the best bound of the cells gone through
abbrev pub invariant-loop-cell : goal.invariant-loop-cell
invariant-loop-cell l = IsBestOrNone (is_edge l.graph) (loops_in l.nest) l.one.head l.changes l.head l.cell l.best
