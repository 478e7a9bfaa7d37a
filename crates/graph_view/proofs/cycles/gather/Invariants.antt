use Rattle.std.proofs.Common.{◌≡◌, take, vec_len, length}
use Rattle.bt_base.specs.Graph.{rows_of}
use Rattle.graph_view.proofs.cycles.gather.Given as goal
use Rattle.graph_view.specs.Cycles.{AreGathered}

-- the calls gone through stand in their rows
abbrev pub invariant-loop-calling : goal.invariant-loop-calling
invariant-loop-calling l = record {
  count : vec_len l.rows ≡ length l.subs;
  gathered : AreGathered l.subs l.names (take l.calling-index l.callings) (rows_of l.rows.items);
}
