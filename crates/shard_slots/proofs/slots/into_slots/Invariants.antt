use Rattle.std.proofs.Common.{◌≡◌, ◌≤◌, ◌+◌, ◌++◌, map, reverse, Some, vec_capacity, vec_len}
use Rattle.shard_slots.proofs.slots.into_slots.Given as goal

-- the parts that are left, and then those that were moved, the last first
abbrev pub invariant-loop-part : goal.invariant-loop-part
invariant-loop-part g l = (map Some l.parts.items ++ reverse l.slots.items ≡ map Some l.fn.parts.items)
    × (vec_capacity l.parts ≡ vec_capacity l.fn.parts) × (vec_len l.parts + vec_len l.slots ≤ vec_capacity l.slots)

abbrev pub decreases-loop-part : goal.decreases-loop-part
decreases-loop-part g l = vec_len l.parts
