use Rattle.std.proofs.Common.{rules, ◌∙◌}
use Rattle.shard_slots.proofs.Keeps.{opens}
use Rattle.shard_slots.proofs.shards.Shards.new.Goals as goal

pub new-requires : goal.new-requires
new-requires g c = opens c.args.parts.items _ _ _ (c.as_slice.ensures.value ∙ c.in_ok-words.ensures.items_if_clones_equal (λ y h. h))
    (search rules) c.in_ok-slots.ensures.slots
