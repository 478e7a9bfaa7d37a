use Rattle.std.proofs.Common.{refl}
use Rattle.std.proofs.lemmas.Bool.{false≢true}
use Rattle.value_refine.specs.Region.{IsInRegion}
use Rattle.value_refine.proofs.RefineLemmas.{chosen_more, chosen_less}
use Rattle.value_refine.proofs.restricting.in_region.Goals as goal
use Rattle.value_refine.proofs.restricting.in_region.Goals.{then-has+in_ok-push, else-has}

pub loop-word-preserved : goal.loop-word-preserved
loop-word-preserved c =
    let words = c.args.words.now in
    let kept = c.loop-word.kept.items in
    let i = c.loop-word.word-index in
    elim c.if-has.branch [
      | then-has+in_ok-push w ↦ rw (w.kept-is, w.in_ok-push.ensures.items)
          (chosen_more (IsInRegion c.args.region.now) words kept i c.loop-word-test.true (w.if-has.ensures.0 refl) c.loop-word.invariant)
      | else-has w ↦ rw w.kept-is
          (chosen_less (IsInRegion c.args.region.now) words kept i c.loop-word-test.true (λ is. false≢true (w.if-has.ensures.1 is)) c.loop-word.invariant)
    ]
