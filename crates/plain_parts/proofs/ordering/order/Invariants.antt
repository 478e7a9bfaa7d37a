use Rattle.std.proofs.Common.{◌≡◌, length}
use Rattle.plain_parts.proofs.ordering.order.Given as goal

-- the graph has a node for each subprogram
abbrev pub invariant-loop-key : goal.invariant-loop-key
invariant-loop-key l = length l.graph ≡ length l.subs
