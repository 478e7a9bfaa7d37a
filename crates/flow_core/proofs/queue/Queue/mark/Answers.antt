use Rattle.std.proofs.Common.{◌≡◌, true, subst, sym, refl, ◌∙◌, ap}
use Rattle.std.proofs.lemmas.Result.{IfOk-at_ok}
use Rattle.flow_core.specs.Queue.{IsQueue, with_mark}
use Rattle.flow_core.proofs.QueueLemmas.{marked_queue, room_left, mark_idle, some_when}
use Rattle.flow_core.proofs.queue.Queue.mark.Goals as goal

pub unwrap-requires : goal.unwrap-requires
unwrap-requires g c =
    c.push-pushed.ensures.succeeds
    (room_left g.K.Ord.cmp g.met.K.Ord.total c.self.inside.marks.entries c.self.inside.heap c.args.k c.self.invariant
    (c.waits.ensures.waits c.if-not-waits.false))

pub returns-then-not-waits : goal.returns-then-not-waits
returns-then-not-waits g c = record {
  marked = subst (λ marks. marks ≡ with_mark g.K.Ord.cmp marks c.args.k true) c.self.view_is
      (mark_idle g.K.Ord.cmp g.met.K.Ord.total c.self.inside.marks.entries c.args.k (c.waits.ensures.other c.if-not-waits.true));
}

pub invariant_of-self : goal.invariant_of-self
invariant_of-self g c =
    let p = c.push-pushed.ensures in
    let was = c.unwrap.ensures in
    let heap' = c.push-pushed.new.self in
    subst (λ marks. IsQueue g.K.Ord.cmp marks heap') (sym c.write_mark.ensures)
    (marked_queue g.K.Ord.cmp g.met.K.Ord.total c.self.inside.marks.entries c.self.inside.heap heap' c.args.k (record { 0 = c.args.k }) refl c.self.invariant
    (c.waits.ensures.waits c.if-not-waits.false) (IfOk-at_ok _ was p.permutation) (IfOk-at_ok _ was p.heap_order) (IfOk-at_ok _ was p.len) p.capacity)
