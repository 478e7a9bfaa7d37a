use Rattle.std.proofs.Common.{◌≡◌, ◌++◌, map, take}
use Rattle.loop_lines.proofs.addresses.push_addresses.Given as goal
use Rattle.loop_lines.specs.Matched.{address_at}

-- the addresses of the nodes gone through stand behind the others
abbrev pub invariant-loop-node : goal.invariant-loop-node
invariant-loop-node l = l.addresses.items ≡ l.initial.addresses.items ++ map (address_at l.places) (take l.node-index l.nodes)
