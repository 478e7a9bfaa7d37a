use Rattle.std.proofs.Common.{take}
use Rattle.loop_lines.proofs.addresses.matched_addresses.Given as goal
use Rattle.loop_lines.specs.Matched.{AreOf}

-- the addresses are those of the subprograms gone through
abbrev pub invariant-loop-sub : goal.invariant-loop-sub
invariant-loop-sub l = AreOf l.view (take l.sub-index l.subs) l.addresses.items
