use Rattle.std.proofs.Common.{◌≡◌, ◌+◌, ◌≤◌, length, arith, ap, sym, ◌∙◌}
use Rattle.std.specs.BinaryHeap.{heap_capacity}
use Rattle.flow_core.proofs.QueueLemmas.{total-le, roomy_queue, none_from_absent, length_one_more}
use Rattle.flow_core.proofs.queue.Queue.keep_room.Goals as goal

pub overflow_sub-more : goal.overflow_sub-more
overflow_sub-more g c =
    omega (arith, total-le g.K.Ord.cmp g.met.K.Ord.total c.self.inside.marks.entries c.self.inside.heap c.self.invariant, c.len.ensures.len, c.len-2.ensures)

pub invariant_of-self-2 : goal.invariant_of-self-2
invariant_of-self-2 g c =
    let absent = none_from_absent _ (sym c.contains_key.ensures ∙ c.if-contains_key.false) in
    let put = c.in_ok-insert.ensures in
    let room = c.in_ok-reserve.ensures in
    let fits : length c.self.inside.marks.entries + 1 ≤ heap_capacity c.reserve.new.self =
    omega (
      arith,
      room.ok,
      c.len.ensures.len,
      c.len-2.ensures,
      total-le g.K.Ord.cmp g.met.K.Ord.total c.self.inside.marks.entries c.self.inside.heap
          c.self.invariant,
    ) in
    roomy_queue g.K.Ord.cmp g.met.K.Ord.total c.self.inside.marks.entries c.insert.new.self.entries c.self.inside.heap c.reserve.new.self c.args.k
    c.self.invariant absent put.entries (λ q. put.updates.0 q) put.ordered
    (length_one_more _ _ _ put.len (put.old ∙ absent)) room.items room.len fits
