use Rattle.std.proofs.Common.{subst, refl, arith}
use Rattle.flow_core.specs.Queue.{IsLeast}
use Rattle.flow_core.proofs.QueueLemmas.{top_is_least, first_is_marked}
use Rattle.flow_core.proofs.queue.Queue.least.Goals as goal

pub returns-in-Some-clause-least : goal.returns-in-Some-clause-least
returns-in-Some-clause-least g c =
    let q = c.self.invariant in
    let some = c.in-Some.ensures.variant.0 refl in
    let h = first_is_marked g.K.Ord.cmp g.met.K.Ord.total c.self.inside.marks.entries c.self.inside.heap c.in-Some.top.now q
    (omega (arith, some, c.self.inside.heap.data.ok.0)) c.in-Some.ensures.lookup in
    subst (λ marks. IsLeast g.K.Ord.cmp marks c.in-Some.top.now.0) c.self.view_is
    (top_is_least g.K.Ord.cmp g.met.K.Ord.total c.self.inside.marks.entries c.self.inside.heap c.in-Some.top.now q (c.in-Some.ensures.greatest q.order) h)
