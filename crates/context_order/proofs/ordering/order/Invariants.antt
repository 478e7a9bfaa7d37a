use Rattle.std.proofs.Common.{◌≡◌, length}
use Rattle.context_order.proofs.ordering.order.Given as goal

-- the graph has a node for each context
abbrev pub invariant-loop-from : goal.invariant-loop-from
invariant-loop-from l = length l.graph ≡ length l.opened
