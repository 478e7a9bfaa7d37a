use Rattle.std.proofs.Common.{rules, ap, ◌∙◌}
use Rattle.shard_slots.proofs.Allowed.{joins_seats}
use Rattle.shard_slots.proofs.Seats.{bare_seat}
use Rattle.shard_slots.proofs.shards.Shards.join.Goals as goal

pub join_seat-requires : goal.join_seat-requires
join_seat-requires g c = let bare = ap (λ v. v.held) c.other.view_is ∙ c.requires.other_held in
    (search rules, search rules, bare_seat _ _ c.other.invariant bare, search rules, joins_seats _ _ _ _ bare)
