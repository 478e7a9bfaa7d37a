use Rattle.std.proofs.Common.{subst, sym, refl}
use Rattle.flow_core.specs.Queue.{IsQueue, IsLeast}
use Rattle.flow_core.proofs.QueueLemmas.{popped_queue, top_is_marked, top_is_least, some_when}
use Rattle.flow_core.proofs.queue.Queue.take_least.Goals as goal

pub write_mark-requires : goal.write_mark-requires
write_mark-requires g c =
    some_when _ _ (top_is_marked g.K.Ord.cmp g.met.K.Ord.total c.self.inside.marks.entries c.self.inside.heap c.pop.new.self c.in-Some.top c.self.invariant
    c.in-Some.ensures.permutation)

pub invariant_of-self-in-Some : goal.invariant_of-self-in-Some
invariant_of-self-in-Some g c =
    let p = c.in-Some.ensures in
    let q = c.self.invariant in
    let heap' = c.pop.new.self in
    subst (λ marks. IsQueue g.K.Ord.cmp marks heap') (sym c.write_mark.ensures)
    (popped_queue g.K.Ord.cmp g.met.K.Ord.total c.self.inside.marks.entries c.self.inside.heap heap' c.in-Some.top q p.permutation (p.heap_order q.order).0
    p.len p.capacity)

pub returns-in-Some-clause-least : goal.returns-in-Some-clause-least
returns-in-Some-clause-least g c =
    let p = c.in-Some.ensures in
    let q = c.self.invariant in
    let h = top_is_marked g.K.Ord.cmp g.met.K.Ord.total c.self.inside.marks.entries c.self.inside.heap c.pop.new.self c.in-Some.top q p.permutation in
    subst (λ marks. IsLeast g.K.Ord.cmp marks c.in-Some.top.0) c.self.view_is
    (top_is_least g.K.Ord.cmp g.met.K.Ord.total c.self.inside.marks.entries c.self.inside.heap c.in-Some.top q (p.heap_order q.order).1 h)
