use Rattle.std.proofs.Common.{rules, ap, ◌∙◌, Some}
use Rattle.shard_slots.specs.Hold.{times}
use Rattle.shard_slots.proofs.Allowed.{takes_part}
use Rattle.shard_slots.proofs.Seats.{last_is}
use Rattle.shard_slots.proofs.shards.Shards.take_shard.Goals as goal

pub swap-found-requires : goal.swap-found-requires
swap-found-requires g c = (
  search rules,
  search rules,
  takes_part _ _ c.args.n _ (search rules) c.seat.invariant.heavy
      (ap (λ v. times c.args.n v.held) c.seat.view_is ∙ c.requires.lacks),
)

pub exchange-requires : goal.exchange-requires
exchange-requires g c = let found = c.swap-found.ensures.2.0 (search rules) in
    (search rules, (Some found.part, last_is c.args.n (Some found.part) _ _ _ found.seat))
