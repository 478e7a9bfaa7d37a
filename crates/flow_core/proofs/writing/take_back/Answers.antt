use Rattle.std.proofs.Common.{◌≡◌, ◌+◌, IsSome, None, subst, sym, ap, not, ◌∙◌, true, false, take}
use Rattle.flow_system.specs.Facts.{fact_at, KeysRise}
use Rattle.flow_core.specs.Writing.{TakesBack}
use Rattle.flow_core.proofs.QueueLemmas.{none_from_absent}
use Rattle.flow_core.proofs.WritingLemmas.{back_none, back_kept, back_removed, found_by}
use Rattle.flow_core.proofs.writing.take_back.Goals as goal
use Rattle.flow_core.proofs.writing.take_back.Goals.{then-is_none+in-Some-1, then-is_none+in-None-1, else-is_none}

pub loop-k-init : goal.loop-k-init
loop-k-init g c = record {
  back = back_none g.K.Ord.cmp c.args.facts.now c.args.risen.now c.args.keys.now;
  rise = c.requires.rise;
}

pub loop-k-preserved : goal.loop-k-preserved
loop-k-preserved g c =
    let cmp = g.K.Ord.cmp in
    let keys = c.requires.order in
    let facts = c.args.facts.now in
    let risen = c.args.risen.now in
    let ks = c.args.keys.now in
    let i = c.loop-k.k-index in
    let k = c.k-item.result in
    let inv = c.loop-k.invariant in
    elim c.if-is_none.branch [
      | then-is_none+in-Some-1 w ↦
          let none : fact_at cmp risen k ≡ None = none_from_absent _ (found_by c.get.result _ false c.get.ensures.fact
          (c.is_none.ensures ∙ ap not w.if-is_none.true)) in
          record {
            back = subst (λ new. TakesBack cmp facts risen (take (i + 1) ks) new) (sym w.facts-is)
                (back_removed cmp keys facts risen ks i k c.loop-k.facts c.loop-k-test.true c.k-item.is inv.back w.remove.new.self none
                w.remove.ensures.written);
            rise = subst (λ new. KeysRise cmp new) (sym w.facts-is) w.remove.ensures.rise;
          }
      | then-is_none+in-None-1 w ↦
          let none : fact_at cmp risen k ≡ None = none_from_absent _ (found_by c.get.result _ false c.get.ensures.fact
          (c.is_none.ensures ∙ ap not w.if-is_none.true)) in
          record {
            back = subst (λ new. TakesBack cmp facts risen (take (i + 1) ks) new) (sym w.facts-is)
                (back_removed cmp keys facts risen ks i k c.loop-k.facts c.loop-k-test.true c.k-item.is inv.back w.remove.new.self none
                w.remove.ensures.written);
            rise = subst (λ new. KeysRise cmp new) (sym w.facts-is) w.remove.ensures.rise;
          }
      | else-is_none w ↦
          let some : IsSome (fact_at cmp risen k) = found_by c.get.result _ true c.get.ensures.fact (c.is_none.ensures ∙ ap not w.if-is_none.false) in
          record {
            back = subst (λ new. TakesBack cmp facts risen (take (i + 1) ks) new) (sym w.facts-is)
                (back_kept cmp keys facts risen ks i k c.loop-k.facts c.loop-k-test.true c.k-item.is inv.back some);
            rise = subst (λ new. KeysRise cmp new) (sym w.facts-is) inv.rise;
          }
    ]
