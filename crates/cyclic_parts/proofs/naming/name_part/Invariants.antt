use Rattle.std.proofs.Common.{◌≡◌, ℕ, Some, take, if◌then◌else◌}
use Rattle.bt_base.specs.Graph.{has}
use Rattle.cyclic_parts.specs.Parts.{name_of}
use Rattle.cyclic_parts.proofs.naming.name_part.Given as goal

-- the nodes gone through are named
abbrev pub invariant-loop-member : goal.invariant-loop-member
invariant-loop-member l = (n : ℕ) → name_of l.names n ≡ (if has (take l.member-index l.part) n then Some l.node else name_of l.initial.names n)
