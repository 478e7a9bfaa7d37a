use Rattle.std.proofs.Common.{ap, ◌∙◌}
use Rattle.shard_slots.specs.Seat.{Seat}
use Rattle.shard_slots.proofs.Parts.{closed_has_parts}
use Rattle.shard_slots.proofs.shards.Shards.close.Goals as goal

pub out_of_slots-requires-clause-parts : goal.out_of_slots-requires-clause-parts
out_of_slots-requires-clause-parts g c =
    closed_has_parts _ _ _ _ (ap (λ (s : Seat). s.held) c.seat.view_is ∙ c.requires.held)
    (ap (λ (s : Seat). s.weight) c.seat.view_is ∙ c.requires.weight) c.close_with.ensures.values.2
