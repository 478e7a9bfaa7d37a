use Rattle.std.proofs.Common.{◌≡◌, ◌++◌, drop, map}
use Rattle.plain_parts.proofs.settling.settled_all.Given as goal
use Rattle.plain_parts.specs.Searched.{settled}

-- the entries so far, and those still to be settled
abbrev pub invariant-loop-entry : goal.invariant-loop-entry
invariant-loop-entry l = l.bounds.items ++ map settled (drop l.entry-index l.table) ≡ map settled l.table
