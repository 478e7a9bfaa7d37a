-- The rows so far are as many empty ones as the counter says.
use Rattle.std.proofs.Common.{◌≡◌, [], replicate}
use Rattle.bt_base.specs.Graph.{rows_of}
use Rattle.bt_base.proofs.graph.empty_rows.Given as goal

abbrev pub invariant-loop : goal.invariant-loop
invariant-loop l = rows_of l.rows.items ≡ replicate l.counter []
