use Rattle.std.proofs.Common.{◌≡◌, vec_len}
use Rattle.bt_base.specs.Graph.{rows_of}
use Rattle.graph_view.proofs.cycles.put_rows_in_order.Given as goal
use Rattle.graph_view.specs.Cycles.{AreRisen}

-- the rows gone through rise
abbrev pub invariant-loop-row : goal.invariant-loop-row
invariant-loop-row l = record {
  count : vec_len l.rows ≡ vec_len l.initial.rows;
  risen : AreRisen (rows_of l.initial.rows.items) l.row (rows_of l.rows.items);
}
