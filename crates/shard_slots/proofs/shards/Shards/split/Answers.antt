use Rattle.std.proofs.Common.{rules}
use Rattle.shard_slots.proofs.Allowed.{splits_seat}
use Rattle.shard_slots.proofs.shards.Shards.split.Goals as goal

pub split_seat-new-requires : goal.split_seat-new-requires
split_seat-new-requires g c = (search rules, search rules, splits_seat _ _ (search rules))
