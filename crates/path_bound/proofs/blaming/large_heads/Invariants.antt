use Rattle.std.proofs.Common.{◌≡◌, ◌<◌, ◌≤◌, ℕ, false, Some, length}
use Rattle.std.specs.List.{slice_get}
use Rattle.bt_base.specs.Graph.{is_edge}
use Rattle.loop_nest.specs.declared.natural_loop.Loop.{Loop}
use Rattle.path_bound.specs.Blamed.{is_marked}
use Rattle.path_bound.specs.Places.{place_of, loops_in}
use Rattle.path_bound.specs.Ranking.{IsReady}
use Rattle.path_bound.specs.Turning.{NoLabels, IsWeighed, AreSized}
use Rattle.path_bound.proofs.blaming.large_heads.Given as goal

-- the heads of the loops gone through are weighed, and no other node is marked
abbrev pub invariant-loop-place : goal.invariant-loop-place
invariant-loop-place l = record {
  size : length l.large.items ≡ length l.graph;
  sizes : AreSized (length l.graph) l.node l.steps l.laps l.labels;
  ready : IsReady (length l.graph) l.ranking;
  none : NoLabels l.labels;
  each : (k : ℕ) (one : Loop) → k < l.place → slice_get l.loops k ≡ Some one
      → IsWeighed (is_edge l.graph) (loops_in l.loops) one l.node l.steps l.laps (is_marked l.large.items one.head);
  others : (n : ℕ) → l.place ≤ place_of l.loops n → is_marked l.large.items n ≡ false;
}
