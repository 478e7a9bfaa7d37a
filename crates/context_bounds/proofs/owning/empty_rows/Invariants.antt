use Rattle.std.proofs.Common.{◌≡◌, [], replicate}
use Rattle.context_bounds.specs.Own.{rows_of}
use Rattle.context_bounds.proofs.owning.empty_rows.Given as goal

-- the rows so far are as many empty ones as the counter says
abbrev pub invariant-loop : goal.invariant-loop
invariant-loop l = rows_of l.rows.items ≡ replicate l.counter []
