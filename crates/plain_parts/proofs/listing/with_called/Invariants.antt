use Rattle.std.proofs.Common.{◌≡◌, ◌++◌, drop}
use Rattle.std.specs.List.{flat_map}
use Rattle.plain_parts.proofs.listing.with_called.Given as goal
use Rattle.plain_parts.specs.Listed.{called_in}

-- what is listed so far, and what is still to be listed
abbrev pub invariant-loop-key : goal.invariant-loop-key
invariant-loop-key l = l.list.items ++ flat_map (called_in l.binding) (drop l.key-index l.keys) ≡ l.initial.list.items ++ flat_map (called_in l.binding) l.keys
