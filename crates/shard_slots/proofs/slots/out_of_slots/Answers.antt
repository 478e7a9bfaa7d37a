use Rattle.std.proofs.Common.{rules, arith, ◌≡◌, ◌<◌, length, ap, ◌∙◌, subst}
use Rattle.std.specs.Slots.{slots_counts}
use Rattle.shard_slots.proofs.Parts.{one_more, no_part, set_full, set_empty}
use Rattle.shard_slots.proofs.slots.out_of_slots.Goals as goal

pub unreachable-requires : goal.unreachable-requires
unreachable-requires g c = no_part _ _ c.loop-n.n c.requires.parts c.loop-n.invariant.items
    (omega (arith, c.loop-n-test.true, c.slot_count-n-end.ensures, (slots_counts c.args.closed.slots).0))
    (c.take.ensures.value ∙ ap mathlib.Core.Option.some c.in-None.is)

pub loop-n-preserved : goal.loop-n-preserved
loop-n-preserved g c = let was = c.loop-n.invariant in let took = c.take.ensures.others in record {
  items = took.0 ∙ was.items;
  count = took.2 ∙ was.count;
  full = λ k from below. ap (λ l. Rattle.std.proofs.Common.get_or l k Rattle.std.proofs.Common.false) took.1
      ∙ set_full _ c.loop-n.n k from (was.full k (omega (arith, from)) (omega (arith, below, took.2)));
  empty = λ k near. ap (λ l. Rattle.std.proofs.Common.get_or l k Rattle.std.proofs.Common.false) took.1
      ∙ set_empty _ c.loop-n.n k (omega (arith, c.loop-n-test.true, c.slot_count-n-end.ensures, was.count, (slots_counts c.loop-n.closed.slots).1))
      near (was.empty k);
  parts = one_more _ _ c.loop-n.n _ _ c.in-Some.part was.items c.in-Some.ensures.value was.parts c.push_reserved.ensures.items;
  room = c.push_reserved.ensures.capacity ∙ was.room;
}
