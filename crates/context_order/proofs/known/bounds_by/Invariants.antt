use Rattle.std.proofs.Common.{◌≡◌, ◌++◌, drop, map}
use Rattle.context_order.proofs.known.bounds_by.Given as goal
use Rattle.context_order.specs.Filled.{bound_by}

-- the bounds so far, and those still to be found
abbrev pub invariant-loop-link : goal.invariant-loop-link
invariant-loop-link l = l.bounds.items ++ map (bound_by l.table) (drop l.link-index l.links) ≡ map (bound_by l.table) l.links
