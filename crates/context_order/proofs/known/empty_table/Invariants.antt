use Rattle.std.proofs.Common.{◌≡◌, None, replicate}
use Rattle.context_order.proofs.known.empty_table.Given as goal

-- the entries so far are as many as the counter says
abbrev pub invariant-loop : goal.invariant-loop
invariant-loop l = l.table.items ≡ replicate l.counter None
