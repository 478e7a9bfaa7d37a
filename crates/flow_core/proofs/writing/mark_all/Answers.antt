use Rattle.std.proofs.Common.{◌+◌, subst, sym, ◌∙◌, true, false, take, ◌++◌, ◌∷◌, []}
use Rattle.flow_core.specs.Queue.{with_mark}
use Rattle.flow_core.specs.Writing.{MarksAll}
use Rattle.flow_core.proofs.QueueLemmas.{none_from_absent}
use Rattle.flow_core.proofs.WritingLemmas.{marks_none, marks_more, marks_absent, marks_next, found_by}
use Rattle.flow_core.proofs.writing.mark_all.Goals as goal
use Rattle.flow_core.proofs.writing.mark_all.Goals.{then-is_some, else-is_some}

pub loop-k-init : goal.loop-k-init
loop-k-init g c = marks_none g.K.Ord.cmp c.args.facts.now c.args.queue.now c.args.keys.now c.requires.rise

pub loop-k-preserved : goal.loop-k-preserved
loop-k-preserved g c =
    let cmp = g.K.Ord.cmp in
    let keys = c.requires.order in
    let facts = c.args.facts.now in
    let ks = c.args.keys.now in
    let i = c.loop-k.k-index in
    let k = c.k-item.result in
    let old = c.args.queue.now in
    let inv = c.loop-k.invariant in
    elim c.if-is_some.branch [
      | then-is_some w ↦ subst (λ marks. MarksAll cmp facts (take (i + 1) ks) old marks) (sym (w.queue-is ∙ w.mark.ensures.marked))
          (marks_next cmp facts ks i k old (with_mark cmp c.loop-k.queue k true) c.loop-k-test.true c.k-item.is
          (marks_more cmp keys facts (take i ks) old c.loop-k.queue inv k
          (found_by c.get.result _ true c.get.ensures.fact (sym c.is_some.ensures ∙ w.if-is_some.true))))
      | else-is_some w ↦ subst (λ marks. MarksAll cmp facts (take (i + 1) ks) old marks) (sym w.queue-is)
          (marks_next cmp facts ks i k old c.loop-k.queue c.loop-k-test.true c.k-item.is
          (marks_absent cmp keys facts (take i ks) old c.loop-k.queue inv k
          (none_from_absent _ (found_by c.get.result _ false c.get.ensures.fact (sym c.is_some.ensures ∙ w.if-is_some.false)))))
    ]
