use Rattle.std.proofs.Common.{◌+◌, ◌<◌, length}
use Rattle.path_bound.specs.Ranked.{rank_in}
use Rattle.path_bound.proofs.Passed.{IsOnWay}
use Rattle.path_bound.proofs.following.follow.Given as goal

-- the labels lead along the walk so far to the node, whose rank has fallen with each step
abbrev pub invariant-loop-step : goal.invariant-loop-step
invariant-loop-step l = record {
  way : IsOnWay l.labels l.fn.from l.walk.items l.node;
  within : l.node < length l.labels;
  low : rank_in l.order l.node + l._step < length l.order;
}
