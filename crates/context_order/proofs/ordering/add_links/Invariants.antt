use Rattle.std.proofs.Common.{◌≡◌, length}
use Rattle.context_order.proofs.ordering.add_links.Given as goal

-- the graph keeps its nodes
abbrev pub invariant-loop-link : goal.invariant-loop-link
invariant-loop-link l = length l.graph ≡ length l.initial.graph
