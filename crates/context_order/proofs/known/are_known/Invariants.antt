use Rattle.std.proofs.Common.{All, take}
use Rattle.context_order.proofs.known.are_known.Given as goal
use Rattle.context_order.specs.Filled.{IsKnown}

-- the first calls lead to contexts with answers
abbrev pub invariant-loop-link : goal.invariant-loop-link
invariant-loop-link l = All (IsKnown l.table) (take l.link-index l.links)
