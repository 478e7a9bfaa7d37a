use Rattle.std.proofs.Common.{◌≡◌, [], replicate}
use Rattle.bt_base.specs.Graph.{rows_of}
use Rattle.graph_view.proofs.cycles.empty_rows.Given as goal

-- the rows so far are as many empty ones as the counter says
abbrev pub invariant-loop : goal.invariant-loop
invariant-loop l = rows_of l.rows.items ≡ replicate l.counter []
