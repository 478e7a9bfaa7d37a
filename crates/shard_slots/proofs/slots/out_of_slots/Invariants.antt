use Rattle.std.proofs.Common.{◌≡◌, ℕ, ◌<◌, false, get_or, map, take, Some, vec_capacity}
use Rattle.std.specs.Slots.{slots_items, slots_filled, slots_len}
use Rattle.std.specs.Slots.Ownership.{Filled}
use Rattle.shard_slots.proofs.slots.out_of_slots.Given as goal

-- the slots before the next one are empty, the others full, and the parts are those of the empty ones
abbrev pub invariant-loop-n : goal.invariant-loop-n
invariant-loop-n g l = record {
  items : slots_items l.closed.slots ≡ slots_items l.fn.closed.slots;
  count : slots_len l.closed.slots ≡ slots_len l.fn.closed.slots;
  full : Filled (slots_filled l.closed.slots) l.n (slots_len l.closed.slots);
  empty : (k : ℕ) → k < l.n → get_or (slots_filled l.closed.slots) k false ≡ false;
  parts : map Some l.parts.items ≡ take l.n (slots_items l.fn.closed.slots);
  room : vec_capacity l.parts ≡ vec_capacity l.fn.parts;
}
